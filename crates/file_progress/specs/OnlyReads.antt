-- A registry area that was only read (this project's profile).
use Rattle.outside.specs.declared.disk.Disk.{Ghosts as DiskGhosts}
use Rattle.registry_log.specs.OnlyRead.{IsOnlyRead}

abbrev pub IsOnlyReadBy : {D : Type 0} → DiskGhosts D → D → D → Type 0
IsOnlyReadBy disk old new = IsOnlyRead disk.contents disk.images disk.moment disk.images_since disk.faults old new

use Rattle.report.proofs.last_line.status_line.Goals as goal

pub returns-in-Usage-clause-told : goal.returns-in-Usage-clause-told
returns-in-Usage-clause-told g c = rw c.in-Usage.is c.write_all-in-Usage.ensures.told

pub returns-in-DiskFault-clause-told : goal.returns-in-DiskFault-clause-told
returns-in-DiskFault-clause-told g c = rw c.in-DiskFault.is c.write_all-in-DiskFault.ensures.told

pub returns-in-FolderFault-clause-told : goal.returns-in-FolderFault-clause-told
returns-in-FolderFault-clause-told g c = rw c.in-FolderFault.is c.write_all-in-FolderFault.ensures.told

pub returns-in-SourceFault-clause-told : goal.returns-in-SourceFault-clause-told
returns-in-SourceFault-clause-told g c = rw c.in-SourceFault.is c.write_all-in-SourceFault.ensures.told

pub returns-in-NoMemory-clause-told : goal.returns-in-NoMemory-clause-told
returns-in-NoMemory-clause-told g c = rw c.in-NoMemory.is c.write_all-in-NoMemory.ensures.told

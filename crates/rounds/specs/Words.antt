-- What the objects of a round report (this project's profile): the names in which the contracts of their calls speak.
use Rattle.std.specs.Prelude.{ℕ, List, Option}
use Rattle.outside.specs.Tails.{TailHistory}
use Rattle.outside.specs.Talks.{Talk}
use Rattle.outside.specs.Wires.{Outcome}

-- of tails
pub record TailWords (T : Type 0) : Type 0 where
  pub numbers : T → Option (ℕ × ℕ)
  pub told : T → Option TailHistory
  pub faults : T → ℕ

abbrev pub tail_words : {T : Type 0} → (T → Option (ℕ × ℕ)) → (T → Option TailHistory) → (T → ℕ) → TailWords T
tail_words numbers told faults = record { numbers = numbers; told = told; faults = faults }

-- of links
pub record LinkWords (L : Type 0) : Type 0 where
  pub told : L → Option Talk
  pub faults : L → ℕ
  pub idles : L → ℕ

abbrev pub link_words : {L : Type 0} → (L → Option Talk) → (L → ℕ) → (L → ℕ) → LinkWords L
link_words told faults idles = record { told = told; faults = faults; idles = idles }

-- of wires
pub record WireWords (W : Type 0) : Type 0 where
  pub outcomes : W → Option (List Outcome)
  pub open_links : W → ℕ
  pub faults : W → ℕ
  pub idles : W → ℕ

abbrev pub wire_words : {W : Type 0} → (W → Option (List Outcome)) → (W → ℕ) → (W → ℕ) → (W → ℕ) → WireWords W
wire_words outcomes open_links faults idles = record { outcomes = outcomes; open_links = open_links; faults = faults; idles = idles }

-- of disks
pub record DiskWords (D : Type 0) : Type 1 where
  pub contents : D → Option (List ℕ)
  pub images : D → List ℕ → Type 0
  pub moment : D → ℕ
  pub images_since : D → ℕ → List ℕ → Type 0
  pub faults : D → ℕ

abbrev pub disk_words : {D : Type 0} → (D → Option (List ℕ)) → (D → List ℕ → Type 0) → (D → ℕ) → (D → ℕ → List ℕ → Type 0) → (D → ℕ) → DiskWords D
disk_words contents images moment images_since faults = record { contents = contents; images = images; moment = moment; images_since = images_since; faults = faults }

-- of all
pub record Words (T W L D : Type 0) : Type 1 where
  pub tails : TailWords T
  pub links : LinkWords L
  pub wires : WireWords W
  pub disks : DiskWords D

abbrev pub words : {T W L D : Type 0} → TailWords T → LinkWords L → WireWords W → DiskWords D → Words T W L D
words tails links wires disks = record { tails = tails; links = links; wires = wires; disks = disks }

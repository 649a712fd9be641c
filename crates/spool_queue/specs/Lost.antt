-- Why a run that sends does not reach its peer (this project's profile): the connection or its link failed, the peer sent what it
-- may not, or it was silent.
use Rattle.std.specs.Prelude.{ℕ, ◌⊎◌}
use Rattle.outside.specs.Counts.{Rose}

-- counts of a link or of a wire, before a call and after it
pub record LinkCounts : Type 0 where
  pub faults_before : ℕ
  pub faults_now : ℕ
  pub idles_before : ℕ
  pub idles_now : ℕ

abbrev pub link_counts : ℕ → ℕ → ℕ → ℕ → LinkCounts
link_counts faults_before faults_now idles_before idles_now = record { faults_before = faults_before; faults_now = faults_now; idles_before = idles_before; idles_now = idles_now }

-- its count of faults rose; or the talk has a fault of the peer; or nothing came for so long that its count of idles rose
abbrev pub IsLost : LinkCounts → Type 0 → Type 0 → Type 0
IsLost counts Fault Silence =
    Rose counts.faults_before counts.faults_now ⊎ (Fault ⊎ (Rose counts.idles_before counts.idles_now × Silence))

-- A code for plain values, by which a proof distinguishes them: a tree of numbers that gives the value back
-- (this project's profile).
use Rattle.std.specs.Prelude.{◌≡◌, ℕ, zero, suc, ℤ, pos, negsuc, Bool, true, false, List, [], ◌∷◌, refl}
use Rattle.std.specs.Coded.{Coded, code_by, coded_list, coded×, coded_ℕ}
use Rattle.std.proofs.Common.{ap}
use base.Stored.{Gv, gnil, gnum, gcons}
use denote.Struct.Codes.{itself}
use Rattle.event_tree.specs.Value.{TreeValue, null, flag, int, str, list, fields, Values, no_values, value, Members, no_members, member, FieldList}

abbrev pub bytes_to : List ℕ → Gv
bytes_to [] = gnil
bytes_to (b ∷ bs) = gcons (gnum b) (bytes_to bs)

abbrev pub num_in : Gv → ℕ
num_in gnil = 0
num_in (gnum n) = n
num_in (gcons a b) = 0

abbrev pub bytes_in : Gv → List ℕ
bytes_in gnil = []
bytes_in (gnum n) = []
bytes_in (gcons a b) = num_in a ∷ bytes_in b

bytes_back : (bs : List ℕ) → bytes_in (bytes_to bs) ≡ bs
bytes_back [] = refl
bytes_back (b ∷ bs) = ap (λ r. b ∷ r) (bytes_back bs)

abbrev pub int_to : ℤ → Gv
int_to (pos n) = gcons (gnum 0) (gnum n)
int_to (negsuc n) = gcons (gnum 1) (gnum n)

abbrev pub int_by : ℕ → ℕ → ℤ
int_by zero n = pos n
int_by (suc k) n = negsuc n

abbrev pub int_in : Gv → ℤ
int_in gnil = pos 0
int_in (gnum n) = pos 0
int_in (gcons a b) = int_by (num_in a) (num_in b)

int_back : (n : ℤ) → int_in (int_to n) ≡ n
int_back (pos n) = refl
int_back (negsuc n) = refl

abbrev pub flag_to : Bool → Gv
flag_to true = gnum 1
flag_to false = gnum 0

abbrev pub flag_by : ℕ → Bool
flag_by zero = false
flag_by (suc n) = true

flag_back : (b : Bool) → flag_by (num_in (flag_to b)) ≡ b
flag_back true = refl
flag_back false = refl

abbrev mutual
  pub value_to : TreeValue → Gv
  value_to null = gnil
  value_to (flag b) = gcons (gnum 0) (flag_to b)
  value_to (int n) = gcons (gnum 1) (int_to n)
  value_to (str s) = gcons (gnum 2) (bytes_to s)
  value_to (list vs) = gcons (gnum 3) (values_to vs)
  value_to (fields ms) = gcons (gnum 4) (members_to ms)

  pub values_to : Values → Gv
  values_to no_values = gnil
  values_to (value v vs) = gcons (value_to v) (values_to vs)

  pub members_to : Members → Gv
  members_to no_members = gnil
  members_to (member k v ms) = gcons (gcons (bytes_to k) (value_to v)) (members_to ms)

-- the value of this kind, of what each kind reads
abbrev pub value_by : ℕ → Bool → ℤ → List ℕ → Values → Members → TreeValue
value_by zero b n s vs ms = flag b
value_by (suc zero) b n s vs ms = int n
value_by (suc (suc zero)) b n s vs ms = str s
value_by (suc (suc (suc zero))) b n s vs ms = list vs
value_by (suc (suc (suc (suc k)))) b n s vs ms = fields ms

abbrev mutual
  pub value_in : Gv → TreeValue
  value_in gnil = null
  value_in (gnum n) = null
  value_in (gcons a b) = value_by (num_in a) (flag_by (num_in b)) (int_in b) (bytes_in b) (values_in b) (members_in b)

  pub values_in : Gv → Values
  values_in gnil = no_values
  values_in (gnum n) = no_values
  values_in (gcons a b) = value (value_in a) (values_in b)

  pub members_in : Gv → Members
  members_in gnil = no_members
  members_in (gnum n) = no_members
  members_in (gcons gnil b) = no_members
  members_in (gcons (gnum n) b) = no_members
  members_in (gcons (gcons k v) b) = member (bytes_in k) (value_in v) (members_in b)

mutual
  pub value_back : (v : TreeValue) → value_in (value_to v) ≡ v
  value_back null = refl
  value_back (flag b) = ap flag (flag_back b)
  value_back (int n) = ap int (int_back n)
  value_back (str s) = ap str (bytes_back s)
  value_back (list vs) = ap list (values_back vs)
  value_back (fields ms) = ap fields (members_back ms)

  pub values_back : (vs : Values) → values_in (values_to vs) ≡ vs
  values_back no_values = refl
  values_back (value v vs) = λ i. value (value_back v i) (values_back vs i)

  pub members_back : (ms : Members) → members_in (members_to ms) ≡ ms
  members_back no_members = refl
  members_back (member k v ms) = λ i. member (bytes_back k i) (value_back v i) (members_back ms i)

abbrev pub value_code : Coded TreeValue
value_code = code_by Gv itself value_to value_in value_back

abbrev pub values_code : Coded (List TreeValue)
values_code = coded_list value_code

abbrev pub pairs_code : Coded FieldList
pairs_code = coded_list (coded× (coded_list coded_ℕ) value_code)

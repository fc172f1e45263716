-- Files that change while their volumes are kept current (document 02, 2026-05).
--
--   Change                 a change: the file's number, the place, the old and the new bytes of the stretch
--   Stretch m c            the stretch of the change c is of one of the two kinds, for a file with the contents m
--   ChangeRight m c        and the old bytes are true
--   spliced c m            the contents m after the change
--   changed c x            the file x after it
--   saved_place ss j        the place of the saved one number j, from 0, in a list of statuses
--   place_of fs f           the place of file f in the files fs
--   amended c fs           the files fs after the change c
--   statuses_of es          the statuses of the entries es
--   place_in es f           the place of the entry of file f in the entries es
--   amended_list f e list   the list area with the entry e for file f
--   amended_data w c m d    the data area d after the change c, with m bytes: w is the file's coefficient
--   amended_size e vol      the data size of the volume vol, where e is the file's entry as it now is
--   weight_in rules f vol   the coefficient of file f in the volume vol, by the rule of the volume's code
--   amended_body rules c e vol, amend_volume rules c e vol   the bytes from 32 on of the volume vol, and all of them, after the change c
-- The rules for the coefficients are any: `rules k f v` is that of file f in volume v of the code k.
-- Assumes nothing.
use Rattle.std.specs.Prelude.{◌≡◌, cond, ℕ, zero, suc, ◌+◌, ◌-◌, ◌≤◌, max, length, take, drop, get_or, set, replicate}
use mathlib.Core.List.{List, [], ◌∷◌, ◌++◌, map, flatten}
use Rattle.codes.specs.declared.Code.{Code}
use Rattle.little_endian.specs.Bytes.{to_le}
use Rattle.md5_digest.specs.Digest.{md5}
use Rattle.mul_add.specs.MulAdd.{mul_add}
use Rattle.entries.specs.Entry.{status_of, file_size_of, is_saved}
use Rattle.entries.specs.Walk.{entries_of}
use Rattle.par1_rules.specs.Layout.{version_of, volume_number_of, data_size_of, list_of, data_of}
use Rattle.par1_rules.specs.Hashes.{set_hash}
use Rattle.par1_rules.specs.Rules.{code_in}
use Rattle.par1_set.specs.Files.{File, no_file}

pub record Change : Type 0 where
  pub file : ℕ
  pub place : ℕ
  pub old : List ℕ
  pub new : List ℕ

-- ---- the files

-- "Either both stretches are equally long and inside the file, or the old one is empty and the new one goes on the end."
pub data Stretch (m : List ℕ) (c : Change) : Type 0 where
  inside : length c.old ≡ length c.new → c.place + length c.old ≤ length m → Stretch m c
  on_end : c.old ≡ [] → c.place ≡ length m → Stretch m c

-- "given true old bytes"
pub record ChangeRight (m : List ℕ) (c : Change) : Type 0 where
  pub kind : Stretch m c
  pub old_true : take (length c.old) (drop c.place m) ≡ c.old

abbrev pub spliced : Change → List ℕ → List ℕ
spliced c m = take c.place m ++ (c.new ++ drop (c.place + length c.old) m)

abbrev pub changed : Change → File → File
changed c x = record { contents = spliced c x.contents; status = x.status; name = x.name }

-- "Files are numbered 1 to n over the saved entries only"
abbrev pub saved_place : List ℕ → ℕ → ℕ
saved_place [] j = 0
saved_place (s ∷ ss) zero = cond (is_saved s) 0 (suc (saved_place ss zero))
saved_place (s ∷ ss) (suc j) = cond (is_saved s) (suc (saved_place ss j)) (suc (saved_place ss (suc j)))

abbrev pub place_of : List File → ℕ → ℕ
place_of fs f = saved_place (map (λ x. x.status) fs) (f - 1)

abbrev pub amended : Change → List File → List File
amended c fs = set fs (place_of fs c.file) (changed c (get_or fs (place_of fs c.file) no_file))

-- ---- the volume

abbrev pub statuses_of : List (List ℕ) → List ℕ
statuses_of es = map (λ e. status_of e) es

abbrev pub place_in : List (List ℕ) → ℕ → ℕ
place_in es f = saved_place (statuses_of es) (f - 1)

abbrev pub amended_list : ℕ → List ℕ → List ℕ → List ℕ
amended_list f e list = let es : List (List ℕ) = (entries_of list).pieces in flatten (set es (place_in es f) e)

-- zeros for the new tail; then the old bytes, times the coefficient, go off from the place on, and the new ones come on: both are sums
abbrev pub amended_data : ℕ → Change → ℕ → List ℕ → List ℕ
amended_data w c m area =
    let z : List ℕ = area ++ replicate (m - length area) 0 in
    take c.place z ++ mul_add w c.new (mul_add w c.old (drop c.place z))

-- "if the greatest size grew"
abbrev pub amended_size : List ℕ → List ℕ → ℕ
amended_size e vol = max (data_size_of vol) (file_size_of e)

-- document 02, 2026-13: "amending follows it", the code of the volume
abbrev pub weight_in : (Code → ℕ → ℕ → ℕ) → ℕ → List ℕ → ℕ
weight_in rules f vol = rules (code_in (version_of vol)) f (volume_number_of vol)

-- "only the amended parity bytes, that entry's size and hashes, the set hash, .. the data size and its new tail may differ from before":
-- at 48 the numbers before the data size stay
unfoldable pub amended_body : (Code → ℕ → ℕ → ℕ) → Change → List ℕ → List ℕ → List ℕ
amended_body rules c e vol =
    let list : List ℕ = amended_list c.file e (list_of vol) in
    let m : ℕ = amended_size e vol in
    let area : List ℕ = amended_data (weight_in rules c.file vol) c m (data_of vol) in
    flatten (set_hash (entries_of list).pieces ∷ take 40 (drop 48 vol) ∷ to_le 8 m ∷ list ∷ area ∷ [])

-- and the control hash: signature, version and program stay
unfoldable pub amend_volume : (Code → ℕ → ℕ → ℕ) → Change → List ℕ → List ℕ → List ℕ
amend_volume rules c e vol = let body : List ℕ = amended_body rules c e vol in flatten (take 16 vol ∷ md5 body ∷ body ∷ [])

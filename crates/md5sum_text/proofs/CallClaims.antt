-- What the calls give, in the document's words: the claims on them.
-- Assumes nothing.
use Rattle.std.specs.Prelude.{Ok}
use mathlib.Core.Path.{◌≡◌, refl, sym, ap, ap₂, ◌∙◌, subst}
use mathlib.Core.Bool.{Bool, true, false}
use mathlib.Core.List.{List, [], ◌∷◌, ◌++◌, append-nil, map, flatten}
use Prim.Native.Nat.{ℕ, suc, ◌<◌}
use native.Mathlib.Omega.{arith}
use lib.ListN.{length, take, drop, get_or, replicate, length-map, get_or-append}
use lib.Seq.{take-append_seam, drop-append_seam}
use Rattle.refusals.specs.declared.Refusal.{Refusal}
use Rattle.little_endian.specs.Bytes.{Bytes}
use Rattle.little_endian.proofs.Numbers.{bytes_take, bytes_drop}
use Rattle.lent_bytes.specs.Writing.{refused, accepted}
use Rattle.lent_bytes.specs.Writing.{Writing}
use Rattle.lent_bytes.proofs.WritingLaws.{never, written_fits, written_short, accepted_tells, refused_exactly}
use Rattle.cut_lists.specs.All.{All, all_none, all_more}
use Rattle.cut_lists.specs.Pieces.{Cut}
use Rattle.cut_lists.proofs.AllLaws.{all_at}
use Rattle.cut_lists.proofs.CutLaws.{cut-none}
use Rattle.entries.specs.Entry.{md5_of}
use Rattle.entries.proofs.EntryBytes.{IsEntryBytes, entries_bytes}
use Rattle.par1_read.specs.Reading.{entries_in, read_of}
use Rattle.par1_read.specs.declared.reading.Parts.{Parts}
use Rattle.par1_rules.specs.Layout.{list_size_of, list_of}
use Rattle.text.specs.Hex.{hex_bytes}
use Rattle.md5sum_text.specs.Lines.{shaped_length, lines_of}
use Rattle.md5sum_text.specs.Names.{text_of, sum_of}
use Rattle.md5sum_text.specs.Export.{line_for, export_text, all_fitting, export_into}
use Rattle.md5sum_text.specs.Import.{answer_for, import_into}
use Rattle.md5sum_text.specs.Claim as claim
use Rattle.md5sum_text.specs.Claim.{LineOf, Line, Fits, Good, Says, same_sum, SaysAll, FirstFault, ImportRefuses, ExportRefuses}
use Rattle.md5sum_text.proofs.CallLaws.{export_unread, export_unfit, export_fit, import_unread, import_faulty, import_right}
use Rattle.md5sum_text.proofs.ExportLaws.{sum_spells, line_for_lem, lines_for, all_fitting_lem, fitting_all, unfitting, at_map}
use Rattle.md5sum_text.proofs.FaultLaws.{earliest_faulty, none_faulty}
use Rattle.md5sum_text.proofs.Outcomes.{fits, short, answers_in}
use Rattle.md5sum_text.proofs.Outcomes.{ExportView, export_refuses, export_unfits, exports, export_view}
use Rattle.md5sum_text.proofs.Outcomes.{ImportView, import_refuses, import_faults, imports, import_view}
use Rattle.md5sum_text.proofs.SaysLaws.{says_it, says_one}
use Rattle.md5sum_text.proofs.ShapeLaws.{in_sum, in_name, lines_joined}

-- ---- imports

-- lines and no more are cut into themselves
lines_are : (ls : List (List ℕ)) (s : List ℕ) → All Line ls → s ≡ flatten ls → (lines_of s).pieces ≡ ls
lines_are ls s lines e =
    ap (λ (t : List ℕ). (lines_of t).pieces) (e ∙ sym (append-nil (flatten ls)))
    ∙ ap (λ (c : Cut). c.pieces) (lines_joined [] lines) ∙ ap (λ (c : Cut). ls ++ c.pieces) (cut-none shaped_length) ∙ append-nil ls

-- what good lines say of the entries, one after another
says_all : (f s out : List ℕ) (ls : List (List ℕ)) {n : ℕ} {room : List ℕ} → s ≡ flatten ls → Good (entries_in f) ls
    → accepted (answers_in f s) out ≡ (Ok n, room) → SaysAll (entries_in f) ls out n room
says_all f s out ls {n} {room} e good is = let es : List (List ℕ) = entries_in f in
    let told = accepted_tells (answers_in f s) out is in
    let size : length (answers_in f s) ≡ length es = simp length-map in
    let count : n ≡ length es = told.0 ∙ size in
    let byte : (k : ℕ) → k < n → get_or room k 0 ≡ answer_for ls (get_or es k []) = λ k h.
    ap (λ (l : List ℕ). get_or l k 0) told.1 ∙ get_or-append (answers_in f s) _ 0 k (omega arith)
    ∙ at_map (answer_for (lines_of s).pieces) es k 0 (omega arith)
    ∙ ap (λ (m : List (List ℕ)). answer_for m (get_or es k [])) (lines_are ls s good.lines e) in
    record {
      count = count;
      says = λ k h. subst (Says ls (get_or es k [])) (sym (byte k h)) (says_it ls (get_or es k []) good.lines);
      only = λ k b h z. byte k h ∙ says_one es ls good k (omega arith) (says_it ls (get_or es k []) good.lines) z;
      kept = ap (drop n) told.1 ∙ ap (λ (m : ℕ). drop m (answers_in f s ++ drop (length (answers_in f s)) out)) told.0
          ∙ drop-append_seam (answers_in f s) _ ∙ ap (λ (m : ℕ). drop m out) (sym told.0);
    }

pub import_says : claim.ImportSays
import_says f s out n room e = by (import_view f s out) e
  where
    by : {w : Writing × List ℕ} → ImportView f s out w → w ≡ (Ok n, room)
        → (ls : List (List ℕ)) × (s ≡ flatten ls) × Good (entries_in f) ls × SaysAll (entries_in f) ls out n room
    by (import_refuses read) e = never e
    by (import_faults read some) e = never e
    by (imports read none (short h)) e = never e
    by (imports read none (fits h)) e = let g = (none_faulty (entries_in f) s).0 none in (g.0, g.1, g.2, says_all f s out g.0 g.1 g.2 e)

fault_some : {es : List (List ℕ)} {s : List ℕ} {r : Refusal} → FirstFault es s r → r.number ≡ 0 → ⊥
fault_some {r = r} f z = by f.faulty z
  where
    by : {es ls : List (List ℕ)} {t : List ℕ} {n : ℕ} → claim.Faulty es ls t n → n ≡ 0 → ⊥
    by (claim.another_shape h) z = omega arith
    by (claim.another_sum t q y l k h i o) z = omega arith

pub import_refused : claim.ImportRefused
import_refused f s out = refused_exactly (ImportRefuses f s out) (answers_in f s) out (λ r z. given z) (first (import_view f s out))
  where
    size : length (answers_in f s) ≡ length (entries_in f)
    size = simp length-map

    given : {r : Refusal} → ImportRefuses f s out r → import_into f s out ≡ refused r out
    given (claim.unread read) = sym (import_unread f s out read)
    given {r} (claim.faulty read fault) = sym (import_faulty f s out read (sym ((earliest_faulty (entries_in f) s r).1 fault)) (fault_some fault))
    given (claim.no_room ls read e good h) =
        sym (import_right f s out read refl ((none_faulty (entries_in f) s).1 ls e good) (written_short (answers_in f s) out (omega (arith, size))))

    first : {w : Writing × List ℕ} → ImportView f s out w → (P : Type 0) → ((r : Refusal) → ImportRefuses f s out r → P)
        → (w ≡ accepted (answers_in f s) out → P) → P
    first (import_refuses read) P some none = some _ (claim.unread read)
    first (import_faults read fault) P some none = some _ (claim.faulty read ((earliest_faulty (entries_in f) s _).0 refl fault))
    first (imports read right (short h)) P some none =
        let g = (none_faulty (entries_in f) s).0 right in some _ (claim.no_room g.0 read g.1 g.2 (omega (arith, size)))
    first (imports read right (fits h)) P some none = none refl

-- ---- exports

pub export_refused : claim.ExportRefused
export_refused f out = refused_exactly (ExportRefuses f out) (export_text (entries_in f)) out (λ r z. given z) (first (export_view f out))
  where
    unfit_is : (k : ℕ) → k < length (entries_in f) → (Fits (get_or (entries_in f) k []) → ⊥) → all_fitting (entries_in f) ≡ false
    unfit_is k h unfit = by (all_fitting (entries_in f)) refl
      where
        by : (b : Bool) → all_fitting (entries_in f) ≡ b → b ≡ false
        by true e = absurd (unfit (all_at [] (all_fitting_lem (entries_in f) e) k h))
        by false e = refl

    given : {r : Refusal} → ExportRefuses f out r → export_into f out ≡ refused r out
    given (claim.unread read) = sym (export_unread f out read)
    given (claim.unfit k read h u) = sym (export_unfit f out read (unfit_is k h u))
    given (claim.no_room read all h) = sym (export_fit f out read (fitting_all all) (written_short (export_text (entries_in f)) out h))

    first : {w : Writing × List ℕ} → ExportView f out w → (P : Type 0) → ((r : Refusal) → ExportRefuses f out r → P)
        → (w ≡ accepted (export_text (entries_in f)) out → P) → P
    first (export_refuses read) P some none = some _ (claim.unread read)
    first (export_unfits read u) P some none = let k = unfitting (entries_in f) u in some _ (claim.unfit k.0 read k.1 k.2)
    first (exports read all (short h)) P some none = some _ (claim.no_room read (all_fitting_lem (entries_in f) all) h)
    first (exports read all (fits h)) P some none = none refl

-- the entries of a file are bytes, and long enough
sound_in : (f : List ℕ) → Bytes f → All IsEntryBytes (entries_in f)
sound_in f b = entries_bytes (list_of f) (bytes_take (list_size_of f) (drop 96 f) (bytes_drop 96 f b))

-- the line of each entry
module _ (f : List ℕ) (b : Bytes f) (all : all_fitting (entries_in f) ≡ true) where
  abbrev es' : List (List ℕ)
  es' = entries_in f

  sound_at : (k : ℕ) → k < length es' → IsEntryBytes (get_or es' k [])
  sound_at k h = all_at [] (sound_in f b) k h

  line_at : (k : ℕ) → k < length es' → LineOf (sum_of (get_or es' k [])) (text_of (get_or es' k [])) (get_or (map line_for es') k [])
  line_at k h =
      subst (LineOf (sum_of (get_or es' k [])) (text_of (get_or es' k []))) (sym (at_map line_for es' k [] h))
      (line_for_lem (sound_at k h) (all_at [] (all_fitting_lem es' all) k h))

  all_lines : All Line (map line_for es')
  all_lines = each (sound_in f b) (all_fitting_lem es' all)
    where
      each : {ds : List (List ℕ)} → All IsEntryBytes ds → All Fits ds → All Line (map line_for ds)
      each all_none all_none = all_none
      each (all_more s ss) (all_more h hs) = all_more (record { sum = _; name = _; line_of = line_for_lem s h }) (each ss hs)

  -- an export imported: entries of one name have one sum
  module _ (alike : (i j : ℕ) → i < length es' → j < length es' → text_of (get_or es' i []) ≡ text_of (get_or es' j []) → md5_of (get_or es' i []) ≡ md5_of (get_or es' j [])) where
    good_lines : Good es' (map line_for es')
    good_lines = let size : length (map line_for es') ≡ length es' = simp length-map in
        record {
          lines = all_lines;
          agree =
              λ i j h k y z n.
              let p = line_at i (omega arith) in
              let q = line_at j (omega arith) in
              let same = sym (in_name p) ∙ in_name y ∙ sym (in_name z) ∙ in_name q in
              sym (in_sum y) ∙ in_sum p ∙ ap hex_bytes (alike i j (omega arith) (omega arith) same) ∙ sym (in_sum q) ∙ in_sum z;
        }

    all_same : (k : ℕ) → k < length es' → answer_for (map line_for es') (get_or es' k []) ≡ 1
    all_same k h = let size : length (map line_for es') ≡ length es' = simp length-map in
        says_one es' (map line_for es') good_lines k h (says_it (map line_for es') (get_or es' k []) all_lines)
        (same_sum k (omega arith) (line_at k h) (all_at [] (all_fitting_lem es' all) k h, refl) refl)

-- a list of ones
ones : (g : List ℕ → ℕ) (xs : List (List ℕ)) → ((k : ℕ) → k < length xs → g (get_or xs k []) ≡ 1) → map g xs ≡ replicate (length xs) 1
ones g [] h = refl
ones g (x ∷ xs) h = ap₂ ◌∷◌ (h 0 (omega arith)) (ones g xs (λ k l. h (suc k) (omega arith)))

-- the file is read and its names fit, where an export is accepted
record Exported (f out : List ℕ) (n : ℕ) (room : List ℕ) : Type 0 where
  parts : Parts
  read : read_of f ≡ Ok parts
  all : all_fitting (entries_in f) ≡ true
  size : n ≡ length (export_text (entries_in f))
  room_is : room ≡ export_text (entries_in f) ++ drop (length (export_text (entries_in f))) out

exported : (f out : List ℕ) (n : ℕ) (room : List ℕ) → export_into f out ≡ (Ok n, room) → Exported f out n room
exported f out n room e = by (export_view f out) e
  where
    by : {w : Writing × List ℕ} → ExportView f out w → w ≡ (Ok n, room) → Exported f out n room
    by (export_refuses read) e = never e
    by (export_unfits read u) e = never e
    by (exports read all (short h)) e = never e
    by (exports {p} read all (fits h)) e =
        let t = accepted_tells (export_text (entries_in f)) out e in record { parts = p; read = read; all = all; size = t.0; room_is = t.1 }

-- its text
text_is : {f out room : List ℕ} {n : ℕ} → Exported f out n room → take n room ≡ export_text (entries_in f)
text_is {f} {out} x =
    ap₂ (λ (n : ℕ) (r : List ℕ). take n r) x.size x.room_is ∙ take-append_seam (export_text (entries_in f)) (drop (length (export_text (entries_in f))) out)

pub export_lines : claim.ExportLines
export_lines f out n room b e = let x = exported f out n room e in
    let es : List (List ℕ) = entries_in f in
    record {
      lines = map line_for es;
      joined = text_is x ∙ lines_for es;
      count = simp length-map;
      each = λ k h. (sum_spells (sound_at f b x.all k h), line_at f b x.all k h);
      kept = ap₂ (λ (m : ℕ) (r : List ℕ). drop m r) x.size x.room_is ∙ drop-append_seam (export_text es) _ ∙ ap (λ (m : ℕ). drop m out) (sym x.size);
    }

pub export_imported : claim.ExportImported
export_imported f out n room more b e alike h = let x = exported f out n room e in
    let es : List (List ℕ) = entries_in f in
    let s : List ℕ = take n room in
    let text : s ≡ flatten (map line_for es) = text_is x ∙ lines_for es in
    let lines = lines_are (map line_for es) s (all_lines f b x.all) text in
    let none = (none_faulty es s).1 (map line_for es) text (good_lines f b x.all alike) in
    let bytes : answers_in f s ≡ replicate (length es) 1 = ap (λ (ls : List (List ℕ)). map (answer_for ls) es) lines
    ∙ ones (answer_for (map line_for es)) es (all_same f b x.all alike) in
    let size : length (answers_in f s) ≡ length es = simp length-map in
    sym (import_right f s more x.read refl none (written_fits (answers_in f s) more (omega arith) refl refl))
    ∙ ap (λ (t : List ℕ). accepted t more) bytes

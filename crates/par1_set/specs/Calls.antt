-- The calls that write a volume or an index of a set of files, one after another, by the definitions that their contracts cite.
--
--   next r out then          what the answer r of a call leads to: `then`, with its length, where it was accepted; else its refusal
--   write_entries fs at out   `write_entry` of each of the files fs into out, one after another, from byte at on: where the last one ends,
--                            and out then
--   add_files rule v fs ks    `mul_add` of each of the files ks with its coefficient in volume v, into zeros of the data size
--   write_set c program v fs area room out  the entries of the files fs into room, then `write_volume` for the code c of this list and the data area
--                                          into out
-- Assumes nothing.
use Rattle.std.specs.Prelude.{List, [], ◌∷◌, ◌++◌, ℕ, ◌+◌, take, drop, replicate, Ok, Err}
use Rattle.codes.specs.declared.Code.{Code}
use Rattle.lent_bytes.specs.Writing.{refused}
use Rattle.lent_bytes.specs.Writing.{Writing}
use Rattle.mul_add.specs.MulAdd.{mul_add_all}
use Rattle.par1_write.specs.EntryWriting.{write_entry_of}
use Rattle.par1_write.specs.VolumeWriting.{write_volume_of}
use Rattle.par1_set.specs.Files.{File, contents_of, data_size_for}

-- the first refusal ends a row of calls
abbrev pub next : Writing → List ℕ → (ℕ → Writing × List ℕ) → Writing × List ℕ
next (Ok n) out then = then n
next (Err k) out then = refused k out

unfoldable pub write_entries : List File → ℕ → List ℕ → Writing × List ℕ
write_entries [] at out = (Ok at, out)
write_entries (x ∷ fs) at out =
    let r : Writing × List ℕ = write_entry_of x.contents x.status x.name (drop at out) in
    next r.0 out (λ n. write_entries fs (at + n) (take at out ++ r.1))

-- "Every saved file folded with its factor into zeros of the data size"
abbrev pub add_files : (ℕ → ℕ → ℕ) → ℕ → List File → List ℕ → List ℕ
add_files rule v fs ks = mul_add_all (λ f. rule f v) (contents_of fs) ks (replicate (data_size_for fs) 0)

-- `write_volume` makes the count and the hashes itself, and writes the version of the code (par1_write, `head_bytes`)
unfoldable pub write_set : Code → ℕ → ℕ → List File → List ℕ → List ℕ → List ℕ → Writing × List ℕ
write_set c program v fs area room out =
    let r : Writing × List ℕ = write_entries fs 0 room in next r.0 out (λ n. write_volume_of c program v (take n r.1) area out)

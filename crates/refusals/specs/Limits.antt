-- The limits of document 01, "Sizes", and of document 02, 2026-08, 2026-11.
--
--   max_file_size        the greatest size of a listed file
--   max_volume_length    the greatest length of a volume or index file
--   max_files           the greatest number of saved files
--   max_entries         the greatest number of entries in a catalog
--   max_listed_length    the greatest length of what the listing program and the replay take
-- Assumes nothing.
use Rattle.std.specs.Prelude.{ℕ}

-- "A listed file: 0 to 16,777,216 bytes."
abbrev pub max_file_size : ℕ
max_file_size = 16777216

-- "A volume or index file: 96 to 33,554,432 bytes."
abbrev pub max_volume_length : ℕ
max_volume_length = 33554432

-- "Saved files n: at most 254"
abbrev pub max_files : ℕ
max_files = 254

-- "At most 1,024 entries."
abbrev pub max_entries : ℕ
max_entries = 1024

-- "The listing program takes at most 65,536 bytes"; document 02, 2026-11: "A log above 65,536 bytes gives only `refused 1`, as in the listing."
abbrev pub max_listed_length : ℕ
max_listed_length = 65536

-- Which code has which version (document 01: "At 8: 32-bit version, 65,536."; document 02, 2026-13, of Cauchy factors: "The layout is that of 01
-- with version 131,328").
--
--   CodeVersions     version 65,536 is that of Par 1.0's code, 131,328 that of Cauchy coefficients, and no other version is allowed
-- The contracts of version_of, code_in and version_allowed cite version_for, code_in and version_allowed.
-- Assumes nothing.
use Rattle.std.specs.Prelude.{◌≡◌, true, ◌↔◌, ◌⊎◌, ℕ}
use Rattle.codes.specs.declared.Code.TheVariants.{Powers, Cauchy}
use Rattle.par1_rules.specs.Layout.{version_for}
use Rattle.par1_rules.specs.Rules.{version_allowed, code_in}

-- proved: proofs/RuleLaws.antt, `code_versions`
pub record CodeVersions : Type 0 where
  pub powers_version : (version_for Powers ≡ 65536) × (code_in 65536 ≡ Powers)
  pub cauchy_version : (version_for Cauchy ≡ 131328) × (code_in 131328 ≡ Cauchy)
  -- "test 3 now passes both"
  pub no_others : (v : ℕ) → (version_allowed v ≡ true) ↔ ((v ≡ 65536) ⊎ (v ≡ 131328))

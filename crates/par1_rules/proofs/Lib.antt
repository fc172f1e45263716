pub mod HashLaws
pub mod RuleLaws

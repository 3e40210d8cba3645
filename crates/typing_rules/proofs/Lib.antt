mod Prelude
pub mod Judged
pub mod ReferencesJudged
pub mod ExpressionsJudged
pub mod ExpressionsTyped
pub mod ExpressionsRefused
pub mod FillingTyped
pub mod ItemsTyped
pub mod ProceduresTyped
pub mod StatementsJudged
pub mod Heads
pub mod ModulesJudged
pub mod ModulesTyped
pub mod ModulesRefused
pub mod Laws

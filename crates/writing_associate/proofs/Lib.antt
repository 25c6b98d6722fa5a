pub mod ItemLaws
pub mod ContextLaws
pub mod RoleLaws
pub mod UserLaws
pub mod PduLaws
pub mod AssociateLaws
pub mod Agree

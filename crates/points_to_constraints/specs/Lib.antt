pub mod Items
pub mod NodeItems
pub mod CallItems
pub mod ItemRules

pub mod ExplainText
pub mod Laws

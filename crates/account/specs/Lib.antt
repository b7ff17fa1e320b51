pub mod Account
pub mod Credits
pub mod Laws

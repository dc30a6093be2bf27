pub use Rattle.conn_store.specs.Entries
pub use Rattle.conn_store.specs.Rules
pub use Rattle.conn_store.specs.Stores
pub mod Closed
pub mod Taken
pub mod Listed
pub mod Waiting

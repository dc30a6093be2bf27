-- What each call does with the devices, and by its result what stands then: a file of relations
-- beside each file of calls. `old` and `new` are the devices as the call begins and ends. No clause
-- of a public call cites this.
pub mod Holding
pub mod Asking
pub mod Answering
pub mod Session
pub mod Conversation

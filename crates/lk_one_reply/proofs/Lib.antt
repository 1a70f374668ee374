pub mod OneObject
pub mod OneExplore
pub mod OneProject
pub mod OneReply

pub mod ChainGrowth
pub mod CountLaws
pub mod Endings
pub mod KnowingLaws
pub mod Offers

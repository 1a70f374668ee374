mod ComponentLaws
mod GatheringLaws
mod RegroupedLaws
mod SourceLaws

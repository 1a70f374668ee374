pub mod SpelledFileLaws
pub mod GatheredLaws
pub mod MergedItemLaws
pub mod MergedJoinLaws
pub mod MergedObjectLaws
pub mod LoadedLaws

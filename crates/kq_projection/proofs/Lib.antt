pub mod Unfolded
mod TimelineLemmas
mod Rising
mod Picked
mod Known
mod Places
mod Sourced
mod SameSource
mod PickedPrivate
mod Descending
mod Worklist
mod Following
mod Altering
mod AccountedActs
mod HeldViews
mod LeftViews
mod RisingTables
mod WithinRecords
mod AnyWithin
mod TouchedKeys
mod UntouchedRecords
mod NamedTargets
mod NotedKeys
mod NotedMarks
mod SameValues
mod TracedWorlds
mod TrackedRecords
mod WorldNext
mod TrackedNext
pub mod Sayings
mod FirstTracked
mod PlainRows
mod NamedKqueues
mod SaidItems
mod SaidNext
pub mod PrivateOf
mod SplitNext
mod SplittingNext
mod Events
pub mod Closes
pub mod AtOnePlace
pub mod OneConcern
pub mod ItemByItem
pub mod Records
pub mod OwnConcerns
pub mod ListedFold
pub mod OwnRows
pub mod Recorded
pub mod PrivateRows
pub mod Rejoined
pub mod Collected
pub mod Kept

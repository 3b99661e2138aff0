-- Definitions: what a trace means. That a replay's report is right rests on these and on nothing below them.
-- The text of a trace, and what it reads as.
pub mod Lines
pub mod Limits
pub mod Names
pub mod FlagNames
pub mod FaultNames
pub mod Members
pub mod Kinds
pub mod ChangeText
pub mod RecordText
pub mod Reading
pub mod Spelling
-- One kqueue: its knotes, registration, hints, the clock and retrieval.
pub mod Errno
pub mod Bits
pub mod NoteBits
pub mod Views
pub mod Caller
pub mod Ticks
pub mod Hearing
pub mod Knote
pub mod Kqueue
pub mod Look
pub mod Targets
pub mod Refusals
pub mod ChangedKnote
pub mod Registration
pub mod Retrieval
pub mod Call
pub mod Hints
pub mod Following
pub mod Close
pub mod TimerWalk
pub mod Clock
-- The world: objects, descriptors and processes, and the plan of each record.
pub mod Accounts
pub mod Sockets
pub mod Pipes
pub mod Files
pub mod Objects
pub mod SocketSteps
pub mod PipeSteps
pub mod ObjectPlan
pub mod SocketPlans
pub mod PipePlans
pub mod FilePlans
pub mod Planning
pub mod Holding
pub mod Descriptors
pub mod Processes
pub mod World
pub mod ProcessPlans
pub mod DescriptorPlans
pub mod ObjectRecordPlans
pub mod Plans
-- The whole: a step, the fold of a trace, its rows and its report.
pub mod Moment
pub mod System
pub mod Report
-- Definitions of a trace seen kqueue by kqueue, which the replay of each kqueue alone rests on.
pub mod Births
pub mod Moments
pub mod References
pub mod PrivateList
pub mod Replayed
pub mod OwnedRows
pub mod Shares
pub mod Projection
-- Laws: what these definitions promise, in the words of a user of kqueue(2), and what version 1 of the format meant.
pub mod RegistrationLaws
pub mod CallLaws
pub mod HintLaws
pub mod ClosedNumbers
pub mod LiveKqueues
pub mod LiveCalls
pub mod VersionOne
-- Bridges: how the code keeps what the definitions speak of, which contracts name, and what holds of every world and
-- kqueue, which proofs need.
pub mod Hashed
pub mod NextTicks
pub mod WalkedAtOnce
pub mod Tallying
pub mod Tallied
pub mod Recast
pub mod Alerting
pub mod Subjects
pub mod NamedTargets
pub mod WatchedNumbers
pub mod Holders
pub mod CountedWorld
pub mod ListedFiles
pub mod Touching
pub mod TouchedTargets
pub mod TouchedNumbers
pub mod Items

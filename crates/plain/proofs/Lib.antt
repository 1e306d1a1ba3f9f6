-- What is proved of the definitions: the statements of specs/Demands, each by a theorem of its type. No code is
-- involved here; that the code does what the definitions say is proved in the crates below.
--
--   Stopping    every-run-stops: a run comes to a stop within its limit; stops-once: in one way alone
--   Same        same-run, never-outside: the theorem of demand 3, which only composes
--   Accounts    heap-accounts
--   Untouched   headers-kept, unowned-kept: a store changes no header, no guard, no free body
--   Exactly     check-passes-exactly: a check passes where the plain rule lets its store through
--   Itself      guards-itself: version 2 of an accepted routine guards it
--   Classes     class-is-chain, coloring-is-legal, none-finer, one-coloring, reads-back, files-read-back
--   Answering   refused-only-for, accepted-is-written, run-is-answered: every file has its answer
--
-- What carries them:
--   Lockstep    one step of the routine is one step of version 2, or a check and its store
--   Holding     the tie between live bodies, table and memory: what it says of a byte, what keeps it
--   Rules       the two rules, written out, and that ALLOC and FREE keep the tie under both
--   Start       the tie at the start
--   Through     the states that version 2's run comes through
--   Owners      one color or one class of a byte: the same test
--   Bodies      the live bodies of a list of blocks
--   Painting    objects painted one after the other
--   Globals     the globals' places, and the first table below the heap
--   Places      an instruction has the same place in both versions
--   Standing    what stands at an instruction's place in version 2
--   Aims        what a store of an accepted routine aims at
--   Good        what an accepted routine's instructions may name
--   Recorded    recording the live bodies changes no run
--   Halting     a run never stops for a refusal
--   HeapHeaders, HeapBlocks, HeapAlloc, HeapFree   what ALLOC and FREE do to a heap that is a list of blocks
pub mod HeapHeaders
pub mod HeapBlocks
pub mod HeapAlloc
pub mod HeapFree
pub mod Stopping
pub mod Recorded
pub mod Good
pub mod Owners
pub mod Bodies
pub mod Painting
pub mod Globals
pub mod Holding
pub mod Start
pub mod Aims
pub mod Rules
pub mod Standing
pub mod Lockstep
pub mod Places
pub mod Same
pub mod Through
pub mod Accounts
pub mod Untouched
pub mod Exactly
pub mod Itself
pub mod Classes
pub mod Halting
pub mod Answering

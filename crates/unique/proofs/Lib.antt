-- `Once` proves each statement of specs/Once.antt: NAME-once for the statement NAME. That a statement's
-- promise is its function's contract, word for word, is seen to by tests/unique.sh.
-- `Known` has what two readings of the same bytes have in common.
pub mod Known
pub mod Once

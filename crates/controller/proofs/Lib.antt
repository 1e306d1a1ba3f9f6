-- What `controller` promises rests on one law, `Controlled.controls`: where memory and table have their
-- exact lengths, the controller's answer is the refusal of the instrumenter, or the run of the file
-- that the instrumenter wrote. The plain rule comes in by demand 3 (`same_run` of `plain`).
pub mod Controlled

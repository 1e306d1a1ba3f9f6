-- What has to be proved of the controller's answer, as types: the demands of plain/specs/Demands carried to
-- its one entry point.
use Rattle.std.specs.Prelude.{ℕ, ◌≡◌, List, [], ◌∷◌, true, false}
use Rattle.numbers.specs.declared.refusal.Cause.{Cause}
use Rattle.numbers.specs.Refusals.{refusal}
use Rattle.numbers.specs.declared.refusal.Refusal.{Refusal}
use Rattle.instrumenter.specs.Answer.{FileAnswer, instrument}
use Rattle.machine.specs.Running.{Lent, refuse, exact_lengths, run_file}
use Rattle.plain.specs.Demands.{NotAccepted, Answered}
use Rattle.controller.specs.Control.{control}

-- demand 1: why a routine is not run: lengths, or it is not accepted
pub data ControlRefuses (bytes : List ℕ) (lent : Lent) : Refusal → Type 0 where
  lengths : exact_lengths lent ≡ false → ControlRefuses bytes lent (refusal Cause.WrongLength 0)
  not_accepted : {q : Refusal} → NotAccepted bytes q → ControlRefuses bytes lent q

abbrev pub control_numbers : List ℕ
control_numbers = 1 ∷ 2 ∷ 3 ∷ 4 ∷ 5 ∷ 6 ∷ 7 ∷ 8 ∷ 9 ∷ 11 ∷ []

abbrev pub ControlIsAnswered : Type 0
ControlIsAnswered = (bytes input : List ℕ) (limit : ℕ) (lent : Lent)
    → Answered (ControlRefuses bytes lent) control_numbers lent (control bytes input limit lent)

-- demand 3: what the plain rule gives is what the machine gives for what the instrumenter wrote; and what
-- the instrumenter refuses is refused
abbrev pub Controls : (bytes input : List ℕ) (limit : ℕ) → Lent → FileAnswer → Type 0
Controls bytes input limit lent (FileAnswer.file out) = control bytes input limit lent ≡ run_file out input limit lent
Controls bytes input limit lent (FileAnswer.refused q) = control bytes input limit lent ≡ refuse lent q

abbrev pub ControlsAsInstrumented : Type 0
ControlsAsInstrumented = (bytes input : List ℕ) (limit : ℕ) (lent : Lent) → exact_lengths lent ≡ true
    → Controls bytes input limit lent (instrument bytes 32768)

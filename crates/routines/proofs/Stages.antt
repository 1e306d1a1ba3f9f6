-- What a routine that reads is answered: the routine itself, 8, or 9.
use mathlib.Core.Path.{◌≡◌, ap, ◌∙◌}
use mathlib.Core.Bool.{Bool, true, false}
use Rattle.numbers.specs.declared.refusal.Cause.{Cause}
use Rattle.numbers.specs.Refusals.{refusal}
use Rattle.files.specs.Program.{Program}
use Rattle.files.specs.Reading.{Reading, whole, on_whole}
use Rattle.coloring.specs.Colored.{few_classes}
use Rattle.routines.specs.Accepted.{globals_fit, laid_out, accepted, Accepted}

module _ (p : Program) where
  by_classes : {b : Bool} → few_classes p ≡ b → accepted (whole p) ≡ on_whole laid_out (elim b [ true ↦ whole p | false ↦ Reading.refused (refusal Cause.ManyClasses 0) ])
  by_classes c = ap (λ (b : Bool). on_whole laid_out (elim b [ true ↦ whole p | false ↦ Reading.refused (refusal Cause.ManyClasses 0) ])) c

  by_globals : {b : Bool} → globals_fit p ≡ b → laid_out p ≡ elim b [ true ↦ whole p | false ↦ Reading.refused (refusal Cause.LargeGlobals 0) ]
  by_globals f = ap (λ (b : Bool). elim b as (λ _. Reading) [ true ↦ whole p | false ↦ Reading.refused (refusal Cause.LargeGlobals 0) ]) f

  pub crowds : few_classes p ≡ false → accepted (whole p) ≡ Reading.refused (refusal Cause.ManyClasses 0)
  crowds c = by_classes c

  pub overflows : few_classes p ≡ true → globals_fit p ≡ false → accepted (whole p) ≡ Reading.refused (refusal Cause.LargeGlobals 0)
  overflows c f = by_classes c ∙ by_globals f

  pub admits : few_classes p ≡ true → globals_fit p ≡ true → accepted (whole p) ≡ whole p
  admits c f = by_classes c ∙ by_globals f

  -- a routine that is called accepted is the answer
  pub accepted_stays : Accepted p → accepted (whole p) ≡ whole p
  accepted_stays a = admits a.classes a.fitting

-- What a ladder and a formula mean: their lists of steps.
use Rattle.std.specs.Prelude.{List, take}
use Rattle.model.specs.declared.step.Step.{Step}
use Rattle.processor.specs.Formulas.{formula_steps}
use Rattle.processor.specs.declared.ladder.Ladder.{Ladder}
use Rattle.processor.specs.declared.formula.Formula.{Formula}

-- a ladder's steps are the first `count` of those that it holds
abbrev pub ladder_steps : Ladder → List Step
ladder_steps l = take l.count l.steps

-- a formula's steps follow from its figures
abbrev pub steps_of : Formula → List Step
steps_of f = formula_steps f.count f.stride f.constant f.linear f.cubic

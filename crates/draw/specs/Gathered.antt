-- A plan gathered run by run from the left.
use Rattle.std.specs.Prelude.{ℕ, ◌+◌, ◌*◌, ◌≤◌, cond, List, [], ◌∷◌, take, ◌==◌}
use Rattle.model.specs.Plan.{segment, ticks_of}
use Rattle.model.specs.declared.segment.Segment.{Segment}
use Rattle.draw.specs.declared.drawing.Drawing.{Drawing}

-- a run set after a plan: left out where it has no ticks, joined where the plan ends at its step
unfoldable pub added : List Segment → Segment → List Segment
added [] s = cond (s.ticks == 0) [] (s ∷ [])
added (n ∷ []) s =
    cond (s.ticks == 0) (n ∷ [])
    (cond (n.step == s.step) (segment n.step (n.ticks + s.ticks) ∷ []) (n ∷ (s ∷ [])))
added (n ∷ (m ∷ ms)) s = n ∷ added (m ∷ ms) s

-- runs set after a plan, one by one
unfoldable pub gathered : List Segment → List Segment → List Segment
gathered ns [] = ns
gathered ns (s ∷ ss) = gathered (added ns s) ss

-- the segments of a drawing
abbrev pub listed : Drawing → List Segment
listed d = take d.count d.segments

-- what has been drawn by time t is within its limits
pub record Within (t : ℕ) (d : Drawing) : Type 0 where
  pub ticks : ticks_of (listed d) ≤ 5040 * t
  pub spent : d.energy ≤ 5040000000 * t

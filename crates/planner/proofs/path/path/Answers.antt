use Rattle.std.proofs.Common.{◌≡◌, true, List, sym, ap, ◌∙◌, subst}
use Rattle.model.specs.Path.{keeps}
use Rattle.model.specs.declared.point.Point.{Point}
use Rattle.queue.specs.Meaning.{jobs_of}
use Rattle.queue.proofs.Order.{ordered_from}
use Rattle.sweep.specs.Views.{view}
use Rattle.theory.specs.Sweep.{sweep}
use Rattle.theory.proofs.Exists.{sweep_keeps}
use Rattle.planner.proofs.Worked.{cuts_rising, corners_are}
use Rattle.planner.proofs.path.path.Goals as goal

pub sweep-requires-clause-rising : goal.sweep-requires-clause-rising
sweep-requires-clause-rising c = cuts_rising c.standing.result.jobs.now _ (c.deref.ensures.0 ∙ c.survey.ensures.cuts)

pub returns : goal.returns
returns c =
    let q = c.args.queue.now in
    let st = c.standing.result in
    let e : view c.sweep.new.way.corners ≡ sweep (jobs_of q) =
    corners_are st.jobs.now c.deref.result.now (view c.sweep.new.way.corners) (ordered_from st.jobs.now st.order) (c.deref.ensures.0 ∙ c.survey.ensures.cuts) c.sweep.ensures
    ∙ ap sweep c.standing.ensures
    in
    record { corners = e; law = subst (λ (w : List Point). keeps (jobs_of q) w ≡ true) (sym e) (sweep_keeps (jobs_of q) (ordered_from (jobs_of q) q.order)) }

use Rattle.std.proofs.Common.{List, [], ◌∷◌, refl, ap, ◌∙◌, arith}
use Rattle.model.specs.Charges.{cost}
use Rattle.model.specs.Plan.{plan}
use Rattle.model.specs.declared.job.Job.{Job}
use Rattle.refusal.specs.Refusals.{first_of}
use Rattle.queue.proofs.Order.{ordered_from}
use Rattle.queue.proofs.Bounds.{span_limit, total_limit}
use Rattle.planner.specs.Planning.{want_line}
use Rattle.planner.proofs.Worthy.{worthy}
use Rattle.planner.proofs.Worked.{found_within, found_refused, none_found, none_accepted, cuts_rising, corners_are, corners_drawable, drawn_plan, drawn_cost}
use Rattle.planner.proofs.draft.Draft.work_out.Goals as goal

pub overflow_add-result : goal.overflow_add-result
overflow_add-result g c =
    let st = c.standing-standing.result in
    let l = found_within (g.P.Processor.steps c.args.processor.now) st.jobs.now c.in-Some.job c.in-Some.ensures in
    omega (arith, l, st.few)

pub returns-in-Some : goal.returns-in-Some
returns-in-Some g c =
    let p = c.args.processor.now in
    record {
      answer =
          found_refused (g.P.Processor.steps p) c.standing-standing.result.jobs.now c.in-Some.job c.in-Some.ensures
          ∙ ap (λ (xs : List Job). first_of (want_line (g.P.Processor.steps p) xs ∷ [])) c.standing-standing.ensures;
      made = refl;
      worth = worthy (g.P.Processor.steps p) _ (g.met.P.Processor.lawful p) (ordered_from _ c.args.queue.now.order);
    }

pub sweep-requires-clause-rising : goal.sweep-requires-clause-rising
sweep-requires-clause-rising g c = cuts_rising c.standing-standing.result.jobs.now _ (c.deref.ensures.0 ∙ c.survey.ensures.cuts)

pub draw-requires-clause-drawable : goal.draw-requires-clause-drawable
draw-requires-clause-drawable g c =
    let p = c.args.processor.now in
    let st = c.standing-standing.result in
    let o = ordered_from st.jobs.now st.order in
    corners_drawable (g.P.Processor.steps p) st.jobs.now c.points.result.now (g.met.P.Processor.lawful p) o (none_found (g.P.Processor.steps p) st.jobs.now c.in_default.ensures)
    (corners_are st.jobs.now c.deref.result.now c.points.result.now o (c.deref.ensures.0 ∙ c.survey.ensures.cuts) (c.points.ensures ∙ c.sweep.ensures))

pub draw-requires-clause-short : goal.draw-requires-clause-short
draw-requires-clause-short g c = span_limit _ c.standing-standing.result.order

pub draw-requires-clause-light : goal.draw-requires-clause-light
draw-requires-clause-light g c = total_limit _ c.standing-standing.result.order c.standing-standing.result.few

pub returns : goal.returns
returns g c =
    let p = c.args.processor.now in
    let st = c.standing-standing.result in
    let o = ordered_from st.jobs.now st.order in
    let w = none_found (g.P.Processor.steps p) st.jobs.now c.in_default.ensures in
    let k = corners_are st.jobs.now c.deref.result.now c.points.result.now o (c.deref.ensures.0 ∙ c.survey.ensures.cuts) (c.points.ensures ∙ c.sweep.ensures) in
    record {
      answer = none_accepted (g.P.Processor.steps p) st.jobs.now w ∙ ap (λ (xs : List Job). first_of (want_line (g.P.Processor.steps p) xs ∷ [])) c.standing-standing.ensures;
      made = (
        drawn_plan (g.P.Processor.steps p) st.jobs.now c.points.result.now _ (g.met.P.Processor.lawful p) o k c.draw.ensures.plan
            ∙ ap (λ (xs : List Job). plan (g.P.Processor.steps p) xs) c.standing-standing.ensures,
        drawn_cost (g.P.Processor.steps p) st.jobs.now c.points.result.now _ (g.met.P.Processor.lawful p) o k c.draw.ensures.spent
            ∙ ap (λ (xs : List Job). cost (g.P.Processor.steps p) xs) c.standing-standing.ensures,
      );
      worth = worthy (g.P.Processor.steps p) _ (g.met.P.Processor.lawful p) (ordered_from _ c.args.queue.now.order);
    }

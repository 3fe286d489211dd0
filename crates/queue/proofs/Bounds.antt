-- How far the standing jobs reach, and how much work they are.
use Rattle.std.proofs.Common.{◌≡◌, ℕ, suc, ◌*◌, ◌<◌, ◌≤◌, true, List, [], ◌∷◌, length, mul-le-mul_left, mul-suc, arith}
use Rattle.model.specs.Sums.{sum_of}
use Rattle.model.specs.Jobs.{job_at, span, total}
use Rattle.model.specs.declared.job.Job.{Job}
use Rattle.queue.specs.Queues.{standing}
use Rattle.queue.proofs.Order.{standing_fit, limits}

span_within : (jobs : List Job) (m : ℕ) → ((i : ℕ) → i < length jobs → (job_at jobs i).deadline ≤ m) → span jobs ≤ m
unfolding span job_at
span_within [] m h = omega arith
span_within (j ∷ js) m h =
    let a = h 0 (omega arith) in
    let b = span_within js m (λ i l. h (suc i) (omega arith)) in
    omega arith

total_within : (jobs : List Job) (m : ℕ) → ((i : ℕ) → i < length jobs → (job_at jobs i).work ≤ m) → total jobs ≤ m * length jobs
unfolding total sum_of job_at
total_within [] m h = omega arith
total_within (j ∷ js) m h =
    let a = h 0 (omega arith) in
    let b = total_within js m (λ i l. h (suc i) (omega arith)) in
    let c = mul-suc m (length js) in
    omega arith

-- the span ends by 200,000
pub span_limit : (jobs : List Job) → standing jobs ≡ true → span jobs ≤ 200000
span_limit jobs e = span_within jobs 200000 (λ i l. (limits (job_at jobs i) (standing_fit jobs e i l)).soon)

-- 256 jobs are at most 256,000,000 units of work
pub total_limit : (jobs : List Job) → standing jobs ≡ true → length jobs ≤ 256 → total jobs ≤ 256000000
total_limit jobs e n =
    let a = total_within jobs 1000000 (λ i l. (limits (job_at jobs i) (standing_fit jobs e i l)).small) in
    let b = mul-le-mul_left 1000000 n in
    omega arith

-- What a processor means: a list of steps that keeps five rules.
use Rattle.std.specs.Prelude.{◌≡◌, ℕ, suc, ◌-◌, ◌*◌, ◌%◌, ◌<◌, ◌≤◌, List, length, slice_index_or}
use Rattle.model.specs.declared.step.Step.{Step}

-- the ticks in a unit of time, and the grains in a unit of work: speed v does v grains in a tick
abbrev pub unit : ℕ
unit = 5040

-- what stands for a step that a processor lacks
abbrev pub no_step : Step
no_step = record { speed = 0; power = 0 }

-- the speed of step i, 0 where there is none
unfoldable pub speed_at : List Step → ℕ → ℕ
speed_at steps i = (slice_index_or steps i no_step).speed

-- the power of step i, 0 where there is none
unfoldable pub power_at : List Step → ℕ → ℕ
power_at steps i = (slice_index_or steps i no_step).power

-- the rise in speed and in power from step i to the next
unfoldable pub gap : List Step → ℕ → ℕ
gap steps i = speed_at steps (suc i) - speed_at steps i

unfoldable pub climb : List Step → ℕ → ℕ
climb steps i = power_at steps (suc i) - power_at steps i

-- the speed of the last step
unfoldable pub top_speed : List Step → ℕ
top_speed steps = speed_at steps (length steps - 1)

-- the five rules
pub record Lawful (steps : List Step) : Type 0 where
  -- 1: it has 2 to 16 steps
  pub least : 2 ≤ length steps
  pub most : length steps ≤ 16
  -- 2: step 0 has speed 0, each later speed is above the one before, and none is above 4,000
  pub idle : speed_at steps 0 ≡ 0
  pub faster : (i : ℕ) → suc i < length steps → speed_at steps i < speed_at steps (suc i)
  pub fast : (i : ℕ) → i < length steps → speed_at steps i ≤ 4000
  -- 3: no power is below the one before or above 1,000,000
  pub dearer : (i : ℕ) → suc i < length steps → power_at steps i ≤ power_at steps (suc i)
  pub dear : (i : ℕ) → i < length steps → power_at steps i ≤ 1000000
  -- 4: each gap between neighbouring speeds divides 5,040
  pub even : (i : ℕ) → suc i < length steps → unit % gap steps i ≡ 0
  -- 5: from step to step, rise in power divided by rise in speed never falls
  pub bends : (i : ℕ) → suc (suc i) < length steps → climb steps i * gap steps (suc i) ≤ climb steps (suc i) * gap steps i

use Rattle.std.proofs.Common.{◌≢◌, ◌*◌, ◌%◌, ◌<◌, ◌≤◌, ℕ}
use Rattle.message_film.proofs.period.common_time.Given as goal

abbrev pub invariant-loop-times : goal.invariant-loop-times
invariant-loop-times l = (fewer : ℕ) → 1 ≤ fewer → fewer < l.times → fewer * l.step % l.time ≢ 0

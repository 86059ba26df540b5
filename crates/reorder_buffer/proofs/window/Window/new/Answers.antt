use Rattle.std.proofs.Common.{rules, arith, ◌≡◌, vec_len}
use Rattle.std.specs.Int.{IsPowerOfTwo}
use Rattle.reorder_buffer.specs.Held.{slots_in}
use Rattle.reorder_buffer.proofs.Positions.{some_position, half_fits}
use Rattle.reorder_buffer.proofs.Ring.{ring_nothing}
use Rattle.reorder_buffer.proofs.window.Window.new.Goals as goal

pub invariant_of-result : goal.invariant_of-result
invariant_of-result c =
    let held = c.in-Ok.held in
    let long : vec_len held ≡ c.in-Some.room = search rules in
    let power : IsPowerOfTwo (vec_len held) = rw long c.in-Some.ensures.0 in
    rw (ring_nothing (slots_in c.in-Ok.held.items) 0) record {
      positions = record {
        enough = search rules;
        power = power;
        least = search rules;
        masked = let some = some_position (vec_len held) power in omega (arith, some, long);
        fits = half_fits (vec_len held) power (search rules);
      };
      within = search rules;
      ring = record {
        within = search rules;
        held = search rules;
        inside = λ positive. positive;
        first_is = tt;
        consecutive = search rules;
      };
    }

pub returns-in-Ok : goal.returns-in-Ok
returns-in-Ok c = rw (ring_nothing (slots_in c.in-Ok.held.items) 0) (search rules)

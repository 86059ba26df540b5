-- A core at the start of a run.
use Rattle.std.proofs.Common.{◌≡◌, ℕ, false, None, [], refl}
use Rattle.circular_buffer.specs.Buffer.{Buffer, buffer}
use Rattle.rollback_cmds.specs.declared.order.Order.{Order}
use Rattle.trace_entry.specs.declared.Entry.{Entry}
use Rattle.mono_model.specs.declared.setup.Setup.{Setup}
use Rattle.mono_model.specs.Split.{split_start}
use Rattle.func_model.specs.declared.walk.Walk.{Walk}
use Rattle.func_model.specs.Walk.{WalkStandsFor, IsFresh}
use Rattle.split_core.specs.Along.{start_at}
use Rattle.split_core.specs.Timed.{Timed, IsTimed}
use Rattle.split_core.specs.Standing.{StandsOn}

pub opening_stands : {D T : Type 0} (timed : Timed T) (laws : IsTimed timed) (s : Setup) (func : Walk D) (time : T) (entries : Buffer Entry) (listed : Buffer Order) (rounds steps : ℕ) →
    WalkStandsFor s [] func → IsFresh func → timed.stands s 0 time → timed.held time ≡ None → entries ≡ buffer [] s.ring → listed ≡ buffer [] 64 → rounds ≡ timed.rounds s → steps ≡ (timed.run s).bound →
    StandsOn timed s (start_at s) (record { func = func; time = time; entries = entries; listed_orders = listed; computed = None; hand = None; rounds = rounds; steps = steps; is_reported = false })
unfolding split_start
opening_stands timed laws s func time entries listed rounds steps stands fresh at empty no_entries no_orders rounds_are steps_are = record {
  func = stands;
  position = fresh.position;
  time = at;
  held = empty;
  computed = refl;
  hand = refl;
  entries = no_entries;
  listed_orders = no_orders;
  rounds = rounds_are;
  steps = steps_are;
  going = refl;
}

-- What is seen of the monolithic machine, and of the in-order machine.
use Rattle.std.specs.Prelude.{ℕ, zero, suc, Option, Some, None, true, false, List, [], ◌∷◌, map}
use Rattle.mono_model.specs.declared.setup.Setup.{Setup}
use Rattle.mono_model.specs.Final.{has_ended}
use Rattle.mono_model.specs.Found.{Found, refused, unknown, known}
use Rattle.mono_model.specs.Result.{Result}
use Rattle.mono_model.specs.Window as window
use Rattle.mono_model.specs.Machine.{Machine, machine_start}
use Rattle.mono_model.specs.Cycle.{cycled}
use Rattle.inorder_machine.specs.InorderMachine.{InorderMachine, inorder_start, done_count}
use Rattle.inorder_machine.specs.Cycle.{inorder_cycled}
use Rattle.insight_model.specs.declared.pipeline.Pipeline.{Pipeline}
use Rattle.insight_model.specs.declared.pipeline.Pipeline.TheVariants.{Window, Inorder}
use Rattle.insight_model.specs.Sight.{Outcome, next_seen, Progress, waiting, executing, accessing, done, Shown, Sight}

abbrev pub outcome_of : Result → Outcome
outcome_of r = record { next = next_seen r.cause r.next; access = r.access; cause = r.cause }

abbrev pub progress_of : window.Stage → Progress
progress_of window.waiting = waiting
progress_of (window.until e r) = executing e (outcome_of r)
progress_of (window.done r) = done (outcome_of r)

abbrev pub word_found : Found → Option ℕ
word_found (refused cause) = None
word_found (unknown word) = Some word
word_found (known word insn) = Some word

abbrev pub shown_as : window.Record → Progress → Shown
shown_as rec progress = record {
  addr = rec.addr;
  word = word_found rec.found;
  predicted = rec.predicted;
  since = rec.since;
  progress = progress;
}

abbrev pub shown_of : window.Record → Shown
shown_of rec = shown_as rec (progress_of rec.stage)

abbrev pub missing_of : Machine → Option ℕ
missing_of m = elim m.paid [ true ↦ Some m.fetch_addr | false ↦ None ]

abbrev pub seen_with : List Shown → Machine → Sight
seen_with shown m = record {
  cycle = m.cycle;
  retired = m.arch.csrs.retired;
  counts = m.counts;
  end = m.end;
  resume = m.resume;
  missing = missing_of m;
  window = shown;
}

-- what is seen of the monolithic machine
unfoldable pub sight : Machine → Sight
sight m = seen_with (map shown_of m.window) m

-- In order, the youngest record that is done is in Memory, if that has one: it goes on in the cycle that stands there.
abbrev pub inorder_progress : Option ℕ → ℕ → window.Stage → Progress
inorder_progress (Some e) zero (window.done r) = accessing e (outcome_of r)
inorder_progress memory younger stage = progress_of stage

abbrev pub inorder_shown : Option ℕ → List window.Record → List Shown
inorder_shown memory [] = []
inorder_shown memory (rec ∷ rest) = shown_as rec (inorder_progress memory (done_count rest) rec.stage) ∷ inorder_shown memory rest

-- what is seen of the in-order machine
unfoldable pub inorder_sight : InorderMachine → Sight
inorder_sight l = seen_with (inorder_shown l.memory l.machine.window) l.machine

-- What is seen of a run, from its start to its end, or over so many cycles.
unfoldable pub sights_from : Setup → ℕ → Machine → List Sight
sights_from s zero m = sight m ∷ []
sights_from s (suc more) m = sight m ∷ elim (has_ended m.end) [ true ↦ [] | false ↦ sights_from s more (cycled s m) ]

unfoldable pub inorder_sights_from : Setup → ℕ → InorderMachine → List Sight
inorder_sights_from s zero l = inorder_sight l ∷ []
inorder_sights_from s (suc more) l = inorder_sight l ∷ elim (has_ended l.machine.end) [ true ↦ [] | false ↦ inorder_sights_from s more (inorder_cycled s l) ]

unfoldable pub sights : Pipeline → Setup → ℕ → List Sight
sights Window s cycles = sights_from s cycles (machine_start s)
sights Inorder s cycles = inorder_sights_from s cycles (inorder_start s)

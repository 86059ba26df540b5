-- Branch prediction at the fetch of an instruction, and training at its commit: two-bit saturating counters and a
-- branch-target buffer (Hennessy and Patterson, Computer Architecture, appendix C.2 and section 3.9), and gshare, which
-- selects the counter by the address and the global history together (McFarling, Combining Branch Predictors, 1993).
-- Instructions are four bytes long, so the instruction at `addr` is number `addr / 4`.
use Rattle.std.specs.Prelude.{ℕ, zero, suc, ◌+◌, ◌-◌, ◌*◌, ◌/◌, ◌%◌, ◌==◌, nat_le, min, not, Bool, true, false, if◌then◌else◌, List, [], ◌∷◌, Option, Some, None, bit_xor}
use Rattle.fsim_base.specs.Number.{wrap_sum}
use Rattle.fsim_base.specs.declared.instruction.Flow.{Flow}
use Rattle.fsim_base.specs.declared.instruction.Flow.TheVariants.{Plain, Branch, Jump}
use Rattle.branch_predictor.specs.declared.params.PredKind.{PredKind}
use Rattle.branch_predictor.specs.declared.params.PredKind.TheVariants.{Static, Bimodal, Gshare}
use Rattle.branch_predictor.specs.declared.params.PredParams.{PredParams}
use Rattle.branch_predictor.specs.declared.params.Target.{Target}

-- what was learnt: a counter and perhaps a target at each index, and of each committed branch whether it was taken, the
-- newest first
pub record Predicting : Type 0 where
  pub counters : ℕ → ℕ
  pub targets : ℕ → Option Target
  pub outcomes : List Bool

-- before anything was learnt
abbrev pub untrained : Predicting
untrained = record { counters = λ _. 1; targets = λ _. None; outcomes = [] }

-- a map with the value at one index replaced
abbrev pub put_at : {A : Type 0} → ℕ → A → (ℕ → A) → (ℕ → A)
put_at index value map = λ i. if i == index then value else map i

-- the newest outcomes as a number of so many bits: the newest is bit 0, and 1 is taken
abbrev pub history_number : ℕ → List Bool → ℕ
history_number zero outcomes = 0
history_number (suc bits) [] = 0
history_number (suc bits) (taken ∷ older) = (if taken then 1 else 0) + 2 * history_number bits older

-- what selects the counter of an instruction by its number
abbrev pub selector : PredKind → ℕ → ℕ → ℕ
selector Static number history = number
selector Bimodal number history = number
selector Gshare number history = bit_xor number history

-- the index of a branch's counter
abbrev pub counter_index : PredParams → Predicting → ℕ → ℕ
counter_index p s addr = selector p.kind (addr / 4) (history_number p.history s.outcomes) % p.counters

-- whether a branch with this counter is predicted taken
abbrev pub is_counted_taken : PredKind → ℕ → Bool
is_counted_taken Static counter = false
is_counted_taken Bimodal counter = nat_le 2 counter
is_counted_taken Gshare counter = nat_le 2 counter

-- whether the branch at an address is predicted taken
abbrev pub is_taken : PredParams → Predicting → ℕ → Bool
is_taken p s addr = is_counted_taken p.kind (s.counters (counter_index p s addr))

-- the place, where it is the address's own
abbrev pub tagged : ℕ → Option Target → Option Target
tagged addr None = None
tagged addr (Some target) = if target.addr == addr then Some target else None

-- what the target buffer knows of an address
abbrev pub target_of : PredParams → Predicting → ℕ → Option Target
target_of p s addr = if p.targets == 0 then None else tagged addr (s.targets (addr / 4 % p.targets))

-- where an instruction of this flow goes: to its target, or to the one behind it
abbrev pub followed : Flow → Bool → ℕ → ℕ → ℕ
followed Plain taken next behind = behind
followed Branch taken next behind = if taken then next else behind
followed Jump taken next behind = next

-- where an instruction of which this is known goes
abbrev pub destination : Option Target → Bool → ℕ → ℕ
destination None taken behind = behind
destination (Some target) taken behind = followed target.flow taken target.next behind

-- the address predicted to follow the instruction at an address
unfoldable pub predicted : PredParams → Predicting → ℕ → ℕ
predicted p s addr = destination (target_of p s addr) (is_taken p s addr) (wrap_sum addr 4)

-- a two-bit counter after one more outcome
abbrev pub moved : Bool → ℕ → ℕ
moved true counter = min (counter + 1) 3
moved false counter = counter - 1

-- after one more outcome of a branch whose counter has this index
abbrev pub counted_at : ℕ → Bool → Predicting → Predicting
counted_at index taken s =
    record s { counters = put_at index (moved taken (s.counters index)) s.counters; outcomes = taken ∷ s.outcomes }

-- after one more outcome of the branch at an address, whose counter is selected by the history before it
abbrev pub counted : PredParams → ℕ → Bool → Predicting → Predicting
counted p addr taken s = counted_at (counter_index p s addr) taken s

-- with a target written to its place, whatever stood there
abbrev pub placed : PredParams → Target → Predicting → Predicting
placed p target s =
    if p.targets == 0 then s else record s { targets = put_at (target.addr / 4 % p.targets) (Some target) s.targets }

-- after the branch at an address that went to `next`
abbrev pub branched : PredParams → ℕ → ℕ → Bool → Predicting → Predicting
branched p addr next true s = placed p (record { addr = addr; flow = Branch; next = next }) (counted p addr true s)
branched p addr next false s = counted p addr false s

-- after the commit of an instruction without a fault, which went from `addr` to `next`
unfoldable pub trained : PredParams → Predicting → ℕ → Flow → ℕ → Predicting
trained p s addr Plain next = s
trained p s addr Branch next = branched p addr next (not (next == wrap_sum addr 4)) s
trained p s addr Jump next = placed p (record { addr = addr; flow = Jump; next = next }) s

-- The entries and the orders of the tests' run are those of its definitions, by computing them.
use Rattle.std.proofs.Common.{◌≡◌, ℕ, zero, suc, ◌+◌, ◌<◌, None, Some, List, [], ◌∷◌, refl, sym, ap, ◌∙◌, arith, inl, inr}
use Rattle.rollback_cmds.specs.declared.order.Order.{Order}
use Rattle.rollback_cmds.specs.declared.order.Order.TheVariants.{Stop}
use Rattle.elf_image.specs.Load.{image_byte, is_executable}
use Rattle.branch_predictor.specs.Predictor.{predicted}
use Rattle.mono_model.specs.Arch.{Arch, start, trapped}
use Rattle.mono_model.specs.Found.{found_at}
use Rattle.mono_model.specs.Result.{executed}
use Rattle.mono_model.specs.Effect.{effect}
use Rattle.mono_model.specs.Sequence.{result_at, seq, entry_at}
use Rattle.mono_model.specs.Path.{path, entry, runs}
use Rattle.mono_model.specs.Machine.{machine_start}
use Rattle.mono_model.specs.Interrupt.{interrupt_phase}
use Rattle.mono_model.specs.Commit.{commit_phase, commits, leaving}
use Rattle.mono_model.specs.Complete.{complete_phase, completes}
use Rattle.mono_model.specs.Issue.{issue_phase, wants_time, walk, turn_of, ready_result}
use Rattle.mono_model.specs.Fetch.{fetch_try, may_fetch}
use Rattle.mono_model.specs.Cycle.{end_of_cycle}
use Rattle.mono_model.specs.Demand.{turn, step, place, orders, order_in, first, opening_in, prefix_with, entry_in}
use Rattle.trace_ring.specs.Ring.{IsNamed, Follows}
use Rattle.trace_ring.specs.Orders.{IsInPlace}
use Rattle.trace_ring.specs.Trial.{trial, refused_fetch, next_word, before}

-- so many orders from a place on, and the last
sets : ℕ → ℕ → List Order
sets zero place = Stop 0 ∷ []
sets (suc left) place = next_word place ∷ sets left (place + 1)

all_orders : orders trial ≡ sets 88 0
unfolding sets orders place step turn machine_start start trapped found_at executed effect result_at seq entry_at path entry interrupt_phase commit_phase commits leaving complete_phase completes issue_phase wants_time walk turn_of ready_result fetch_try may_fetch end_of_cycle image_byte is_executable predicted
all_orders = refl

-- each set order stands in its place
in_sets : (left place n : ℕ) → n < left → order_in (sets left place) n ≡ Some (next_word (place + n))
unfolding sets
in_sets zero place n less = absurd (let no : n < 0 = less in omega arith)
in_sets (suc left) place zero less = let e : place ≡ place + 0 = omega arith in ap (λ (p : ℕ). Some (next_word p)) e
in_sets (suc left) place (suc n) less =
    let e : place + 1 + n ≡ place + suc n = omega arith in
    in_sets left (place + 1) n (omega arith) ∙ ap (λ (p : ℕ). Some (next_word p)) e

pub order_named : (place : ℕ) → place < 88 → IsInPlace trial place (next_word place)
order_named place less =
    let e : 0 + place ≡ place = omega arith in
    ap (λ (os : List Order). order_in os place) all_orders ∙ in_sets 88 0 place less ∙ ap (λ (p : ℕ). Some (next_word p)) e

-- the state behind the first trap is the one behind each later trap
settled : seq trial None (seq trial None (start trial)) ≡ seq trial None (start trial)
unfolding seq start result_at found_at executed effect trapped image_byte is_executable
settled = refl

runs_settled : (n : ℕ) → runs trial (λ k. None) 0 (suc n) (start trial) ≡ seq trial None (start trial)
runs_settled zero = refl
runs_settled (suc n) = ap (seq trial None) (runs_settled n) ∙ settled

entry_without : (n : ℕ) → entry trial [] n ≡ refused_fetch 0 n 0
unfolding entry entry_at path seq start result_at found_at executed effect trapped image_byte is_executable
entry_without zero = refl
entry_without (suc n) = ap (λ (a : Arch). entry_at trial None a (suc n) 0) (runs_settled n)

-- epoch 0 begins before the first order
no_front : (os : List Order) → prefix_with [] os 0 ≡ []
no_front [] = refl
no_front (o ∷ os) = refl

pub entry_named : (n : ℕ) → IsNamed trial (refused_fetch 0 n 0)
unfolding entry_in
entry_named n = sym (ap (λ (os : List Order). entry trial os n) (no_front (orders trial)) ∙ entry_without n)

first_zero : first trial 0 ≡ 0
unfolding first
first_zero = refl

-- epochs 1 and 3 begin at the instructions of the first and the third order
opened : (epoch : ℕ) (n : ℕ) (addr : ℕ) → entry trial (prefix_with [] (sets 88 0) epoch) n ≡ refused_fetch epoch n addr → IsNamed trial (refused_fetch epoch n addr)
unfolding entry_in
opened epoch n addr is = sym (ap (λ (os : List Order). entry trial (prefix_with [] os epoch) n) all_orders ∙ is)

pub first_of_one : IsNamed trial (refused_fetch 1 1 4)
unfolding sets entry entry_at path seq start result_at found_at executed effect trapped image_byte is_executable
first_of_one = opened 1 1 4 refl

pub second_of_one : IsNamed trial (refused_fetch 1 2 0)
unfolding sets entry entry_at path seq start result_at found_at executed effect trapped image_byte is_executable
second_of_one = opened 1 2 0 refl

pub first_of_three : IsNamed trial (refused_fetch 3 3 12)
unfolding sets entry entry_at path seq start result_at found_at executed effect trapped image_byte is_executable
first_of_three = opened 3 3 12 refl

pub opens_one : first trial 1 ≡ 1
unfolding first sets
opens_one = ap (λ (os : List Order). opening_in os 0) all_orders

pub opens_three : first trial 3 ≡ 3
unfolding first sets
opens_three = ap (λ (os : List Order). opening_in os 2) all_orders

-- a chain begins in epoch 0, goes on there, and into a later epoch
pub begins : Follows trial None 0 0
begins = sym first_zero

pub goes_on : (n : ℕ) → Follows trial (before n) 0 n
goes_on zero = begins
goes_on (suc n) = inl (refl, omega arith)

pub goes_to_one : (n : ℕ) → Follows trial (Some (0, n)) 1 1
goes_to_one n = inr (omega arith, sym opens_one)

pub goes_to_three : (n : ℕ) → Follows trial (Some (1, n)) 3 3
goes_to_three n = inr (omega arith, sym opens_three)

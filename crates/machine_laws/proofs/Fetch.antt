-- The relation through a try of fetch: the record that is appended stands on the path, which goes on as predicted.
use Rattle.std.proofs.Common.{◌≡◌, ℕ, suc, ◌+◌, ◌≤◌, ◌==◌, nat_lt, Bool, true, false, if◌then◌else◌, None, List, [], ◌∷◌, ◌++◌, length, length-append, refl, ap, sym, ◌∙◌, subst, arith}
use Rattle.std.proofs.lemmas.Bool.{eqb-true}
use Rattle.fsim_base.specs.Number.{wrap_sum}
use Rattle.rollback_cmds.specs.declared.order.Order.{Order}
use Rattle.rollback_cmds.specs.declared.order.Order.TheVariants.{Set}
use Rattle.cache_timing.specs.Caches.{CachesState, Served}
use Rattle.mono_model.specs.declared.setup.Setup.{Setup}
use Rattle.mono_model.specs.Arch.{Arch}
use Rattle.mono_model.specs.Found.{found_at}
use Rattle.mono_model.specs.Sequence.{seq, found_next, entry_at}
use Rattle.mono_model.specs.Path.{path, time_of, entry}
use Rattle.mono_model.specs.Machine.{Machine}
use Rattle.mono_model.specs.Fetch.{misses, appends, turns, missed, appended, new_record, predicted_next, cache_read, fetch_try}
use Rattle.mono_model.specs.Demand.{Demand, next, path_orders, demand_try}
use Rattle.machine_laws.specs.Relation.{Tracked, Tracks, Related}
use Rattle.mono_model.proofs.Path.{path_next, path_below, path_at_set, goes_on_after}
use Rattle.machine_laws.proofs.Path.{path_text, time_none}
use Rattle.machine_laws.proofs.Tracks.{tracks_end, tracks_append}

entry_next : (s : Setup) (os : List Order) (n : ℕ) → (entry s os n).next ≡ (seq s (time_of os n) (path s os n)).pc
unfolding entry entry_at
entry_next s os n = refl

-- A record more, where the orders are the same or have one more Set: on a path that is the same up to the record, and
-- that goes on behind it as predicted.
new_tracks : (s : Setup) (d : Demand) (q : ℕ → Arch) → Related s d → ((m : ℕ) → m ≤ next d → q m ≡ path s d.orders m) →
    (q (suc (next d))).pc ≡ predicted_next s d.machine →
    Tracks s (time_of d.orders) q d.to_commit (d.machine.window ++ new_record s d.machine ∷ []) (predicted_next s d.machine) None
new_tracks s d q related same goes =
    let os = d.orders in
    let end = tracks_end s (time_of os) (path s os) d.to_commit d.machine.window d.machine.fetch_addr d.machine.kept related.window in
    let n : ℕ = d.to_commit + length d.machine.window in
    let here : q n ≡ path s os n = same n (omega arith) in
    let addr : d.machine.fetch_addr ≡ (q n).pc = sym end.0 ∙ ap (λ (a : Arch). a.pc) (sym here) in
    let text : d.machine.arch.text ≡ (q n).text =
    ap (λ (a : Arch). a.text) related.arch ∙ sym (path_text s os d.to_commit (length d.machine.window) related.within) ∙ ap (λ (a : Arch). a.text) (sym here) in
    let found : found_at s.image d.machine.arch.text d.machine.fetch_addr ≡ found_next s (q n) =
    ap (λ (t : ℕ → ℕ). found_at s.image t d.machine.fetch_addr) text ∙ ap (λ (k : ℕ). found_at s.image (q n).text k) addr in
    let tracked : Tracked s (time_of os n) (q n) (q (suc n)).pc (new_record s d.machine) = record {
      addr = addr;
      found = found;
      time = end.1;
      result = tt;
      follows = goes;
    } in
    let later : None ≡ time_of os (suc n) = sym (time_none os d.to_commit (suc n) related.within (omega arith)) in
    let P : ℕ → Type 0 = λ m. Tracked s (time_of os m) (q m) (q (suc m)).pc (new_record s d.machine) × ((q (suc m)).pc ≡ predicted_next s d.machine) × (None ≡ time_of os (suc m)) in
    tracks_append s (time_of os) (path s os) q d.to_commit d.machine.window (new_record s d.machine) d.machine.fetch_addr (predicted_next s d.machine) d.machine.kept None related.window
    same (λ m is. subst P (sym is) (tracked, goes, later))

appended_length : (s : Setup) (m : Machine) → length (m.window ++ new_record s m ∷ []) ≡ suc (length m.window)
appended_length s m = length-append m.window (new_record s m ∷ []) ∙ omega arith

-- the path goes as predicted already
straight_related : (s : Setup) (d : Demand) (caches : CachesState) → Related s d → (entry s d.orders (next d)).next ≡ predicted_next s d.machine →
    Related s (record d { machine = appended s caches d.machine })
straight_related s d caches related goes =
    let at : (path s d.orders (suc (next d))).pc ≡ predicted_next s d.machine =
    ap (λ (a : Arch). a.pc) (path_next s d.orders (next d) related.on) ∙ sym (entry_next s d.orders (next d)) ∙ goes in
    record {
      arch = related.arch;
      window = new_tracks s d (path s d.orders) related (λ m under. refl) at;
      on = goes_on_after d.orders (next d) (d.to_commit + length (d.machine.window ++ new_record s d.machine ∷ [])) (omega (arith, appended_length s d.machine)) related.on;
      within = related.within;
    }

-- it is made to
bent_related : (s : Setup) (d : Demand) (caches : CachesState) → Related s d →
    Related s (record d { machine = appended s caches d.machine; orders = Set (next d + 1) (predicted_next s d.machine) ∷ d.orders })
bent_related s d caches related =
    let addr : ℕ = predicted_next s d.machine in
    let o : Order = Set (next d + 1) addr in
    let e : next d + 1 ≡ suc (next d) = omega arith in
    let P : ℕ → Type 0 = λ m. (path s (o ∷ d.orders) m).pc ≡ addr in
    let at : (path s (o ∷ d.orders) (suc (next d))).pc ≡ addr = subst P e (ap (λ (a : Arch). a.pc) (path_at_set s (next d + 1) addr d.orders)) in
    record {
      arch = related.arch ∙ sym (path_below s o d.orders d.to_commit (omega arith));
      window = new_tracks s d (path s (o ∷ d.orders)) related (λ m under. path_below s o d.orders m (omega arith)) at;
      on = omega (arith, appended_length s d.machine);
      within = related.within;
    }

appended_related : (s : Setup) (d : Demand) (caches : CachesState) → Related s d →
    Related s (record d { machine = appended s caches d.machine; orders = path_orders s d })
appended_related s d caches related = by_test ((entry s d.orders (next d)).next == predicted_next s d.machine) refl
  where
    by_test : (b : Bool) → ((entry s d.orders (next d)).next == predicted_next s d.machine) ≡ b →
        Related s (record d {
          machine = appended s caches d.machine;
          orders = if b then d.orders else Set (next d + 1) (predicted_next s d.machine) ∷ d.orders;
        })
    by_test true is = straight_related s d caches related (eqb-true (entry s d.orders (next d)).next (predicted_next s d.machine) is)
    by_test false is = bent_related s d caches related

try_related : (s : Setup) (d : Demand) (c : Served) (miss straight : Bool) → Related s d →
    Related s (demand_try s (if miss then misses (missed c.cycles c.state d.machine) else if straight then appends (appended s c.state d.machine) else turns (appended s c.state d.machine)) d)
try_related s d c true straight related = record { arch = related.arch; window = related.window; on = related.on; within = related.within }
try_related s d c false true related = appended_related s d c.state related
try_related s d c false false related = appended_related s d c.state related

pub fetch_related : (s : Setup) (d : Demand) → Related s d → Related s (demand_try s (fetch_try s d.machine) d)
unfolding fetch_try
fetch_related s d related =
    try_related s d (cache_read s d.machine) (nat_lt 0 (cache_read s d.machine).cycles) (predicted_next s d.machine == wrap_sum d.machine.fetch_addr 4) related

use Rattle.std.proofs.Common.{◌≡◌, ℕ, List, Bool, ◌/◌, ◌^◌, arith, refl, ◌∙◌, ap, sym, subst}
use Rattle.cache_timing.specs.declared.params.CacheParams.{CacheParams}
use Rattle.cache_timing.specs.declared.cache.Line.{Line}
use Rattle.cache_timing.specs.Cache.{Touched, touched, touched_line}
use Rattle.cache_timing.specs.CacheStandsFor.{CacheStandsFor}
use Rattle.cache_timing.proofs.Accesses.{touched-none, touched-some}
use Rattle.cache_timing.proofs.Latest.{IsRead, access-latest}
use Rattle.cache_timing.proofs.cache.Cache.access.Goals as goal

pub returns-then-is_absent-clause-touch : goal.returns-then-is_absent-clause-touch
returns-then-is_absent-clause-touch c = λ p back sets keeps.
    ap (λ (t : Touched). t.touch) (sym (touched-none c.args.self.now p back sets c.args.addr c.args.write keeps (grind (arith, c.if-is_absent.ensures))))

pub returns-then-is_absent-clause-sets : goal.returns-then-is_absent-clause-sets
returns-then-is_absent-clause-sets c = λ p back sets keeps.
    let Kept : Touched → Type 0 = λ t. CacheStandsFor c.args.self.now p back t.sets in
    subst Kept (sym (touched-none c.args.self.now p back sets c.args.addr c.args.write keeps (grind (arith, c.if-is_absent.ensures)))) keeps

-- the set's latest line stays clean, so nothing changes
read : (c : goal.Then-is_latest_line) (p : CacheParams) (back : Bool) (sets : ℕ → List Line) → CacheStandsFor c.args.self.now p back sets →
    IsRead c.args.self.now p back (touched p back sets c.args.addr c.args.write)
read c p back sets keeps =
    access-latest c.args.self.now p back sets c.args.addr c.args.write keeps c.if-not-writes.ensures (c.if-is_latest_line.ensures.0 refl)

pub returns-then-is_latest_line-clause-touch : goal.returns-then-is_latest_line-clause-touch
returns-then-is_latest_line-clause-touch c = λ p back sets keeps. sym (read c p back sets keeps).0

pub returns-then-is_latest_line-clause-sets : goal.returns-then-is_latest_line-clause-sets
returns-then-is_latest_line-clause-sets c = λ p back sets keeps. (read c p back sets keeps).1

-- the access went to the line of the address
same_touched : (c : goal.After-access_line) (p : CacheParams) (back : Bool) (sets : ℕ → List Line) → CacheStandsFor c.args.self.now p back sets →
    touched p back sets c.args.addr c.args.write ≡ touched_line p (c.args.addr / 2 ^ c.args.self.now.line_bits) c.makes_dirty-writes.result sets
same_touched c p back sets keeps =
    touched-some c.args.self.now p back sets c.args.addr c.args.write (c.args.addr / 2 ^ c.args.self.now.line_bits) c.makes_dirty-writes.result keeps
    (λ none. absurd (grind (arith, c.if-is_absent.ensures, none))) refl c.makes_dirty-writes.ensures

pub returns-clause-touch : goal.returns-clause-touch
returns-clause-touch c = λ p back sets keeps.
    sym (ap (λ (t : Touched). t.touch) (same_touched c p back sets keeps) ∙ c.access_line.ensures.met p back sets keeps)

pub returns-clause-sets : goal.returns-clause-sets
returns-clause-sets c = λ p back sets keeps.
    let Kept : Touched → Type 0 = λ t. CacheStandsFor c.access_line.new.self p back t.sets in
    subst Kept (sym (same_touched c p back sets keeps)) (c.access_line.ensures.kept p back sets keeps)

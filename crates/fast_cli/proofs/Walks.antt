-- One word of clap's walk, and what the walk over words comes to.
use Rattle.std.proofs.Common.{◌≡◌, ◌∙◌, ℕ, Bool, List, [], ◌∷◌, refl, ap}
use Rattle.std.specs.Prelude.{Option, Some, None, fold, option_map}
use Rattle.std.specs.Option.{option_map_or}
use Rattle.clap.specs.Faults.{settle_fault, step_fault, turn_fault, use_fault, walk_fault, word_fault}
use Rattle.clap.specs.Kinds.{Kinds, or_else}
use Rattle.clap.specs.Simple.{Shape}
use Rattle.clap.specs.Walk.{Held, Row, Rule, Step, Waiting, Walk, after_step, arg_by_id, settled, used, used_by_id, walked, word_met}
use Rattle.fast_cli.specs.Words.{◌>>=◌, Text, Values}
use Rattle.fast_cli.specs.Command.{accepted, values_among}
use Rattle.fast_cli.proofs.Rows.{AreGiven}

-- x where nothing failed before
abbrev pub after : {A : Type 0} → Kinds → Option A → Option A
after [] x = x
after (kind ∷ kinds) x = None

pub accepted-or_else : {A : Type 0} (t u : Kinds) (x : A) → accepted (or_else t u) x ≡ after t (accepted u x)
accepted-or_else [] u x = refl
accepted-or_else (k ∷ ks) u x = refl

pub or_else-nil : (t : Kinds) → or_else t [] ≡ t
or_else-nil [] = refl
or_else-nil (k ∷ ks) = refl

pub after-or_else : {A : Type 0} (t u : Kinds) (x : Option A) → after (or_else t u) x ≡ after t (after u x)
after-or_else [] u x = refl
after-or_else (k ∷ ks) u x = refl

pub bind-some : {A B C : Type 0} (o : Option A) (f : A → B) (k : B → Option C) → ((o >>= (λ a. Some (f a))) >>= k) ≡ (o >>= (λ a. k (f a)))
bind-some None f k = refl
bind-some (Some a) f k = refl

pub bind-end : {A : Type 0} (o : Option A) → (o >>= (λ a. Some a)) ≡ o
bind-end None = refl
bind-end (Some a) = refl

-- ---- what a walk comes to

abbrev pub stands : Held → Waiting → ℕ → Bool → Walk
stands h waiting position is_trailing =
    record { held = h; waiting = waiting; position = position; is_trailing = is_trailing; stopped = None }

-- the rows where the words end here
abbrev pub now : Shape → Held → Option (List Row)
now s h = accepted (settle_fault s.rules s.args_override_self h) (settled s.rules h).rows

-- the rows after the words
unfoldable pub outcome : Shape → Walk → List Text → Option (List Row)
outcome s w words = accepted
    (or_else (walk_fault s [] w words) (settle_fault s.rules s.args_override_self (fold (walked s.rules []) w words).held))
    (settled s.rules (fold (walked s.rules []) w words).held).rows

pub outcome-nil : (s : Shape) (w : Walk) → outcome s w [] ≡ now s w.held
unfolding outcome walk_fault
outcome-nil s w = refl

pub outcome-cons : (s : Shape) (w : Walk) (word : Text) (words : List Text) → outcome s w (word ∷ words) ≡ after (turn_fault s [] w word) (outcome s (walked s.rules [] w word) words)
unfolding outcome walk_fault
outcome-cons s w word words =
    let next = walked s.rules [] w word in
    ap (λ kinds. accepted kinds (settled s.rules (fold (walked s.rules []) next words).held).rows)
    (assoc (turn_fault s [] w word) (walk_fault s [] next words) (settle_fault s.rules s.args_override_self (fold (walked s.rules []) next words).held))
    ∙ accepted-or_else (turn_fault s [] w word) _ _
  where
    assoc : (a b c : Kinds) → or_else (or_else a b) c ≡ or_else a (or_else b c)
    assoc [] b c = refl
    assoc (k ∷ ks) b c = refl

-- by what the word was
pub outcome-met : (s : Shape) (h after_h : Held) (waiting : Waiting) (position : ℕ) (is_trailing : Bool) (word : Text) (words : List Text) (step : Step)
    → word_met s.rules [] is_trailing waiting position word h ≡ (after_h, step)
    → outcome s (stands h waiting position is_trailing) (word ∷ words)
    ≡ after (or_else (word_fault s [] is_trailing waiting word h) (step_fault s position after_h step))
    (outcome s (after_step s.rules word (stands h waiting position is_trailing) after_h step) words)
unfolding walked
outcome-met s h after_h waiting position is_trailing word words step met =
    outcome-cons s (stands h waiting position is_trailing) word words
    ∙ ap (λ m. after (or_else (word_fault s [] is_trailing waiting word h) (step_fault s position m.0 m.1))
    (outcome s (after_step s.rules word (stands h waiting position is_trailing) m.0 m.1) words)) met

-- what is held once an argument has its value and waits to be used
abbrev pub pended : List Rule → Held → Text → Text → Held
pended c h id v = record { rows = (settled c h).rows; pending = Some (id, v ∷ []); skip = h.skip }

pub now-pended : (s : Shape) (h : Held) (id v : Text) (a : Rule) → arg_by_id s.rules id ≡ Some a
    → now s (pended s.rules h id v) ≡ accepted (use_fault s.args_override_self a (v ∷ []) (settled s.rules h).rows) (used a (v ∷ []) (settled s.rules h).rows)
now-pended s h id v a found =
    ap (λ o. accepted (option_map_or (λ x. use_fault s.args_override_self x (v ∷ []) (settled s.rules h).rows) o []) (used_by_id o (v ∷ []) (settled s.rules h).rows)) found

pub settled-pended : (c : List Rule) (h : Held) (id v : Text) (a : Rule) → arg_by_id c id ≡ Some a → (settled c (pended c h id v)).rows ≡ used a (v ∷ []) (settled c h).rows
settled-pended c h id v a found = ap (λ o. used_by_id o (v ∷ []) (settled c h).rows) found

-- ---- one word

abbrev pub IfGiven : Option (List Row) → Type 0
IfGiven None = Unit {0}
IfGiven (Some rows) = AreGiven rows

pub after-given : (t : Kinds) (x : Option (List Row)) → IfGiven x → IfGiven (after t x)
after-given [] x given = given
after-given (k ∷ ks) x given = tt

-- a word that passes: from the rows now to those of the next place
pub step_on : (t : Kinds) (rows : List Row) (x : Option (List Row)) (next : Option Values) (g h : Values → Option Values)
    → option_map values_among x ≡ (next >>= h) → (next >>= h) ≡ g (values_among rows)
    → option_map values_among (after t x) ≡ (option_map values_among (accepted t rows) >>= g)
step_on [] rows x next g h later same = later ∙ same
step_on (k ∷ ks) rows x next g h later same = refl

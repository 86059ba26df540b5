-- Clap's walk over the words behind a command gives the values that the words give by the command's form.
use Rattle.std.proofs.Common.{◌≡◌, ◌∙◌, ◌+◌, ℕ, Bool, cond, true, false, List, [], ◌∷◌, refl, sym, ap, min, subst}
use Rattle.std.specs.Prelude.{◌&&◌, ◌||◌, Option, Some, None, find, nat_lt, option_map}
use Rattle.std.specs.Option.{option_map_or}
use Rattle.std.specs.List.{AllByRecursion}
use Rattle.std.specs.Str.{IsUtf8, bytes_eq}
use Rattle.clap.specs.Faults.{bundle_fault, flags_fault, long_fault, positional_fault, react_fault, settle_fault, step_fault, stray_fault, use_fault, word_fault}
use Rattle.clap.specs.Kinds.{Kinds, or_else}
use Rattle.clap.specs.Lexer.{usize_max}
use Rattle.clap.specs.Simple.{Shape}
use Rattle.clap.specs.Walk.{Held, Row, Rule, Waiting, after_flag, after_step, arg_by_id, arg_by_index, arg_by_long, arg_by_short, done, idle, is_pending, long_met, long_word, next, option, option_word, positional, positional_held, pushed, reacted, settled, to_positional, trailing, used, used_by_id, value, word_met}
use Rattle.clap.specs.declared.error.kind.ErrorKind.{ErrorKind}
use Rattle.clap.specs.declared.error.kind.ErrorKind.TheVariants.{InvalidValue, TooManyValues, UnknownArgument}
use Rattle.fast_cli.specs.Words.{◌>>=◌, Form, Look, Place, Text, Values, after_word, as_flag, as_long, as_look, as_name, as_value, look_of, values_from, with_flag, with_only, with_value}
use Rattle.fast_cli.specs.Words.{dashes, long, plain, short}
use Rattle.fast_cli.specs.Command.{accepted, values_among}
use Rattle.fast_cli.proofs.Rows.{AreGiven, bytes_eq_refl}
use Rattle.fast_cli.proofs.Looks.{HasFlags, Sees, sees}
use Rattle.fast_cli.proofs.Uses.{AreRulesOf, LastPlace, Places, built_shape, flag_arg, flag_given, flag_use, known_option, long_arg, name_arg, name_given, name_use, option_arg, option_given, option_use, rest_arg, rest_given, rest_use}
use Rattle.fast_cli.proofs.Walks.{IfGiven, after, after-given, after-or_else, bind-end, bind-some, now, now-pended, or_else-nil, outcome, outcome-met, outcome-nil, pended, settled-pended, stands, step_on}

abbrev pub at_place : List Text → Option Text → Bool → Values → Place
at_place names waiting only_names values = record { names = names; waiting = waiting; only_names = only_names; values = values }

abbrev pub held : List Row → Option (Text × List Text) → Held
held rows pending = record { rows = rows; pending = pending; skip = 0 }

pub values_from-next : (form : Form) (p : Place) (word : Text) (words : List Text)
    → values_from form p (word ∷ words) ≡ (after_word form word p p.only_names p.waiting >>= (λ after. values_from form after words))
unfolding values_from
values_from-next form p word words = refl

pub accepted-given : (t : Kinds) (rows : List Row) → AreGiven rows → IfGiven (accepted t rows)
accepted-given [] rows given = given
accepted-given (k ∷ ks) rows given = tt

and_false : {A : Type 0} (b : Bool) (x y : A) → cond (b && false) x y ≡ y
and_false true x y = refl
and_false false x y = refl

bind_none : (t : Kinds) (rows : List Row) (g : Values → Option Values) → g (values_among rows) ≡ None
    → (option_map values_among (accepted t rows) >>= g) ≡ None
bind_none [] rows g none = none
bind_none (k ∷ ks) rows g none = refl

after_fails : {A : Type 0} (a b : Kinds) (kind : ErrorKind) (kinds : Kinds) (x : Option A) → a ≡ kind ∷ kinds → after (or_else a b) x ≡ None
after_fails a b kind kinds x e = ap (λ ks. after (or_else ks b) x) e

abbrev shape : Form → List Rule → Shape
shape form c = built_shape form.word c

-- ---- the walk at a name

module _ (form : Form) (c : List Rule) where
  name_walk : (needed : Bool) (h : Held) (waiting : Waiting) (position : ℕ) (is_trailing : Bool) (word : Text) (words : List Text) (name : Text)
      → arg_by_index c position ≡ Some (name_arg needed position name) → word_met c [] is_trailing waiting position word h ≡ (h, value)
      → word_fault (shape form c) [] is_trailing waiting word h ≡ []
      → outcome (shape form c) (stands h waiting position is_trailing) (word ∷ words)
      ≡ after (settle_fault c false h) (outcome (shape form c) (stands (pended c h name word) idle (min (position + 1) usize_max) (is_trailing || false)) words)
  name_walk needed h waiting position is_trailing word words name found met no_fault =
      let fault : step_fault (shape form c) position h value ≡ settle_fault c false h =
      ap (λ o. option_map_or (λ a. positional_fault c false a h) o (stray_fault (shape form c))) found
      ∙ and_false (is_pending (name_arg needed position name) h.pending) [] (settle_fault c false h) in
      let holds : positional_held c (name_arg needed position name) word h ≡ pended c h name word =
      ap (pushed name word) (and_false (is_pending (name_arg needed position name) h.pending) h (settled c h)) in
      let on : after_step c word (stands h waiting position is_trailing) h value ≡ stands (pended c h name word) idle (min (position + 1) usize_max) (is_trailing || false) =
      ap (λ o. to_positional c o word (stands h waiting position is_trailing) h) found
      ∙ ap (λ k. stands k idle (min (position + 1) usize_max) (is_trailing || false)) holds in
      outcome-met (shape form c) h h waiting position is_trailing word words value met
      ∙ (λ i. after (or_else (no_fault i) (fault i)) (outcome (shape form c) (on i) words))

  rest_walk : (h : Held) (waiting : Waiting) (position : ℕ) (is_trailing : Bool) (word : Text) (words : List Text) (name : Text)
      → arg_by_index c position ≡ Some (rest_arg position name) → word_met c [] is_trailing waiting position word h ≡ (h, value)
      → word_fault (shape form c) [] is_trailing waiting word h ≡ []
      → outcome (shape form c) (stands h waiting position is_trailing) (word ∷ words)
      ≡ after (settle_fault c false h) (outcome (shape form c) (stands (pended c h name word) positional position (is_trailing || false)) words)
  rest_walk h waiting position is_trailing word words name found met no_fault =
      let fault : step_fault (shape form c) position h value ≡ settle_fault c false h =
      ap (λ o. option_map_or (λ a. positional_fault c false a h) o (stray_fault (shape form c))) found
      ∙ and_false (is_pending (rest_arg position name) h.pending) [] (settle_fault c false h) in
      let holds : positional_held c (rest_arg position name) word h ≡ pended c h name word =
      ap (pushed name word) (and_false (is_pending (rest_arg position name) h.pending) h (settled c h)) in
      let on : after_step c word (stands h waiting position is_trailing) h value ≡ stands (pended c h name word) positional position (is_trailing || false) =
      ap (λ o. to_positional c o word (stands h waiting position is_trailing) h) found
      ∙ ap (λ k. stands k positional position (is_trailing || false)) holds in
      outcome-met (shape form c) h h waiting position is_trailing word words value met
      ∙ (λ i. after (or_else (no_fault i) (fault i)) (outcome (shape form c) (on i) words))

  stray_walk : (h : Held) (waiting : Waiting) (position : ℕ) (is_trailing : Bool) (word : Text) (words : List Text)
      → arg_by_index c position ≡ None → word_met c [] is_trailing waiting position word h ≡ (h, value)
      → word_fault (shape form c) [] is_trailing waiting word h ≡ []
      → outcome (shape form c) (stands h waiting position is_trailing) (word ∷ words) ≡ None
  stray_walk h waiting position is_trailing word words found met no_fault =
      let fault : step_fault (shape form c) position h value ≡ stray_fault (shape form c) =
      ap (λ o. option_map_or (λ a. positional_fault c false a h) o (stray_fault (shape form c))) found in
      outcome-met (shape form c) h h waiting position is_trailing word words value met
      ∙ (λ i. after (or_else (no_fault i) (fault i)) (outcome (shape form c) (after_step c word (stands h waiting position is_trailing) h value) words))

  -- a word at which the walk fails whatever comes
  fails : (h : Held) (waiting : Waiting) (position : ℕ) (word : Text) (words : List Text) (kind : ErrorKind) (kinds : Kinds)
      → word_fault (shape form c) [] false waiting word h ≡ kind ∷ kinds → outcome (shape form c) (stands h waiting position false) (word ∷ words) ≡ None
  fails h waiting position word words kind kinds fault =
      outcome-met (shape form c) h (word_met c [] false waiting position word h).0 waiting position false word words (word_met c [] false waiting position word h).1 refl
      ∙ after_fails (word_fault (shape form c) [] false waiting word h) _ kind kinds _ fault

  -- ---- what a state comes to, by the form

  -- the words from here on give what the form says, of the values that stand now
  abbrev Reads : Bool → List Text → Waiting → ℕ → Held → List Text → Type 0
  Reads only_names names waiting position h words =
      (option_map values_among (outcome (shape form c) (stands h waiting position only_names) words)
      ≡ (option_map values_among (now (shape form c) h) >>= (λ values. values_from form (at_place names None only_names values) words)))
      × IfGiven (outcome (shape form c) (stands h waiting position only_names) words)

  read_end : (only_names : Bool) (names : List Text) (waiting : Waiting) (position : ℕ) (h : Held) → AreGiven (settled c h).rows → Reads only_names names waiting position h []
  unfolding values_from
  read_end only_names names waiting position h given = (
    ap (option_map values_among) (outcome-nil (shape form c) (stands h waiting position only_names))
        ∙ sym (bind-end (option_map values_among (now (shape form c) h))),
    subst IfGiven (sym (outcome-nil (shape form c) (stands h waiting position only_names))) (accepted-given (settle_fault c false h) (settled c h).rows given),
  )

  name_step : (needed only_names : Bool) (name : Text) (names : List Text) (waiting : Waiting) (position : ℕ) (h : Held) (word : Text) (words : List Text)
      → arg_by_index c position ≡ Some (name_arg needed position name) → arg_by_id c name ≡ Some (name_arg needed position name)
      → word_met c [] only_names waiting position word h ≡ (h, value) → word_fault (shape form c) [] only_names waiting word h ≡ []
      → (only_names || false) ≡ only_names
      → ((p : Place) → after_word form word p only_names None ≡ as_name form word p p.names)
      → Reads only_names names idle (min (position + 1) usize_max) (pended c h name word) words
      → Reads only_names (name ∷ names) waiting position h (word ∷ words)
  name_step needed only_names name names waiting position h word words found known met no_fault same asks later =
      let rows = (settled c h).rows in
      let walk : outcome (shape form c) (stands h waiting position only_names) (word ∷ words)
      ≡ after (settle_fault c false h) (outcome (shape form c) (stands (pended c h name word) idle (min (position + 1) usize_max) only_names) words) =
      name_walk needed h waiting position only_names word words name found met no_fault
      ∙ ap (λ b. after (settle_fault c false h) (outcome (shape form c) (stands (pended c h name word) idle (min (position + 1) usize_max) b) words)) same in
      let used_now : option_map values_among (now (shape form c) (pended c h name word)) ≡ with_only name word (values_among rows) =
      ap (option_map values_among) (now-pended (shape form c) h name word (name_arg needed position name) known) ∙ name_use needed position name word rows in
      let after_name : (with_only name word (values_among rows) >>= (λ values. values_from form (at_place names None only_names values) words))
      ≡ values_from form (at_place (name ∷ names) None only_names (values_among rows)) (word ∷ words) =
      sym (values_from-next form (at_place (name ∷ names) None only_names (values_among rows)) word words
      ∙ ap (λ o. o >>= (λ after. values_from form after words)) (asks (at_place (name ∷ names) None only_names (values_among rows)))
      ∙ bind-some (with_only name word (values_among rows)) (λ values. at_place names None only_names values) (λ p. values_from form p words)) in (
        ap (option_map values_among) walk
            ∙ step_on (settle_fault c false h) rows (outcome (shape form c) (stands (pended c h name word) idle (min (position + 1) usize_max) only_names) words)
            (with_only name word (values_among rows)) (λ values. values_from form (at_place (name ∷ names) None only_names values) (word ∷ words))
            (λ values. values_from form (at_place names None only_names values) words)
            (later.0 ∙ ap (λ o. o >>= (λ values. values_from form (at_place names None only_names values) words)) used_now) after_name,
        subst IfGiven (sym walk) (after-given (settle_fault c false h) _ later.1),
      )

  rest_step : (only_names : Bool) (name : Text) (waiting : Waiting) (position : ℕ) (h : Held) (word : Text) (words : List Text)
      → form.rest ≡ Some name
      → arg_by_index c position ≡ Some (rest_arg position name) → arg_by_id c name ≡ Some (rest_arg position name)
      → word_met c [] only_names waiting position word h ≡ (h, value) → word_fault (shape form c) [] only_names waiting word h ≡ []
      → (only_names || false) ≡ only_names
      → ((p : Place) → after_word form word p only_names None ≡ as_name form word p p.names)
      → Reads only_names [] positional position (pended c h name word) words
      → Reads only_names [] waiting position h (word ∷ words)
  rest_step only_names name waiting position h word words is found known met no_fault same asks later =
      let rows = (settled c h).rows in
      let walk : outcome (shape form c) (stands h waiting position only_names) (word ∷ words)
      ≡ after (settle_fault c false h) (outcome (shape form c) (stands (pended c h name word) positional position only_names) words) =
      rest_walk h waiting position only_names word words name found met no_fault
      ∙ ap (λ b. after (settle_fault c false h) (outcome (shape form c) (stands (pended c h name word) positional position b) words)) same in
      let used_now : option_map values_among (now (shape form c) (pended c h name word)) ≡ Some (with_value name word (values_among rows)) =
      ap (option_map values_among) (now-pended (shape form c) h name word (rest_arg position name) known) ∙ rest_use position name word rows in
      let after_name : values_from form (at_place [] None only_names (with_value name word (values_among rows))) words
      ≡ values_from form (at_place [] None only_names (values_among rows)) (word ∷ words) =
      sym (values_from-next form (at_place [] None only_names (values_among rows)) word words
      ∙ ap (λ o. o >>= (λ after. values_from form after words)) (asks (at_place [] None only_names (values_among rows)))
      ∙ ap (λ o. (o >>= (λ n. Some (at_place [] None only_names (with_value n word (values_among rows))))) >>= (λ after. values_from form after words)) is) in (
        ap (option_map values_among) walk
            ∙ step_on (settle_fault c false h) rows (outcome (shape form c) (stands (pended c h name word) positional position only_names) words)
            (Some (with_value name word (values_among rows))) (λ values. values_from form (at_place [] None only_names values) (word ∷ words))
            (λ values. values_from form (at_place [] None only_names values) words)
            (later.0 ∙ ap (λ o. o >>= (λ values. values_from form (at_place [] None only_names values) words)) used_now) after_name,
        subst IfGiven (sym walk) (after-given (settle_fault c false h) _ later.1),
      )

  -- where the words fail, by the walk and by the form
  none_step : (only_names : Bool) (names : List Text) (waiting : Waiting) (position : ℕ) (h : Held) (words : List Text)
      → outcome (shape form c) (stands h waiting position only_names) words ≡ None
      → values_from form (at_place names None only_names (values_among (settled c h).rows)) words ≡ None
      → Reads only_names names waiting position h words
  none_step only_names names waiting position h words walk none = (
    ap (option_map values_among) walk
        ∙ sym (bind_none (settle_fault c false h) (settled c h).rows (λ values. values_from form (at_place names None only_names values) words) none),
    subst IfGiven (sym walk) tt,
  )

  stray_step : (only_names : Bool) (waiting : Waiting) (position : ℕ) (h : Held) (word : Text) (words : List Text) → form.rest ≡ None
      → arg_by_index c position ≡ None
      → word_met c [] only_names waiting position word h ≡ (h, value) → word_fault (shape form c) [] only_names waiting word h ≡ []
      → ((p : Place) → after_word form word p only_names None ≡ as_name form word p p.names)
      → Reads only_names [] waiting position h (word ∷ words)
  stray_step only_names waiting position h word words is found met no_fault asks =
      let p = at_place [] None only_names (values_among (settled c h).rows) in
      none_step only_names [] waiting position h (word ∷ words) (stray_walk h waiting position only_names word words found met no_fault)
      (values_from-next form p word words ∙ ap (λ o. o >>= (λ after. values_from form after words)) (asks p)
      ∙ ap (λ o. (o >>= (λ n. Some (at_place [] None only_names (with_value n word (values_among (settled c h).rows))))) >>= (λ after. values_from form after words)) is)

  -- no option waits for a value
  abbrev IsReady : Waiting → Type 0
  IsReady idle = Unit {0}
  IsReady positional = Unit {0}
  IsReady (option name) = ⊥

  -- a word that is a name
  place_step : (only_names : Bool) (names : List Text) (waiting : Waiting) (position : ℕ) (h : Held) (word : Text) (words : List Text)
      → Places c position names form.rest → AreGiven (settled c h).rows
      → word_met c [] only_names waiting position word h ≡ (h, value) → word_fault (shape form c) [] only_names waiting word h ≡ []
      → (only_names || false) ≡ only_names
      → ((p : Place) → after_word form word p only_names None ≡ as_name form word p p.names)
      → ((id : Text) (left : List Text) (w : Waiting) (place : ℕ) → IsReady w → Places c place left form.rest → AreGiven (settled c (pended c h id word)).rows
      → Reads only_names left w place (pended c h id word) words)
      → Reads only_names names waiting position h (word ∷ words)
  place_step only_names (name ∷ names) waiting position h word words places given met no_fault same asks later =
      name_step places.0 only_names name names waiting position h word words places.1 places.2 met no_fault same asks
      (later name names idle (min (position + 1) usize_max) tt places.3
      (subst AreGiven (sym (settled-pended c h name word (name_arg places.0 position name) places.2)) (name_given places.0 position name word (settled c h).rows given)))
  place_step only_names [] waiting position h word words places given met no_fault same asks later = go form.rest refl places
    where
      go : (rest : Option Text) → form.rest ≡ rest → LastPlace c position rest → Reads only_names [] waiting position h (word ∷ words)
      go None is place = stray_step only_names waiting position h word words is place met no_fault asks
      go (Some name) is place =
          let here : Places c position [] form.rest = subst (λ rest. LastPlace c position rest) (sym is) place in
          rest_step only_names name waiting position h word words is place.0 place.1 met no_fault same asks
          (later name [] positional position tt here
          (subst AreGiven (sym (settled-pended c h name word (rest_arg position name) place.1)) (rest_given position name word (settled c h).rows given)))

  -- ---- behind `--`

  trails : (words : List Text) (names : List Text) (waiting : Waiting) (position : ℕ) (h : Held)
      → Places c position names form.rest → AreGiven (settled c h).rows → Reads true names waiting position h words
  trails [] names waiting position h places given = read_end true names waiting position h given
  trails (word ∷ words) names waiting position h places given =
      place_step true names waiting position h word words places given refl refl refl (λ p. refl)
      (λ id left w place ready later given. trails words left w place (pended c h id word) later given)

  -- ---- words as clap's lexer sees them

  plain_met : (waiting : Waiting) → IsReady waiting → (position : ℕ) (word : Text) (h : Held) → Sees word plain → word_met c [] false waiting position word h ≡ (h, value)
  plain_met idle ready position word h sees = rw (sees.0, sees.1, sees.2) refl
  plain_met positional ready position word h sees = rw (sees.0, sees.1, sees.2) refl
  plain_met (option name) ready position word h sees = absurd ready

  plain_fault : (waiting : Waiting) (word : Text) (h : Held) → Sees word plain → word_fault (shape form c) [] false waiting word h ≡ []
  plain_fault idle word h sees = rw (sees.0, sees.1, sees.2) refl
  plain_fault positional word h sees = rw (sees.0, sees.1, sees.2) refl
  plain_fault (option name) word h sees = rw (sees.0, sees.1, sees.2) refl

  waits_met : (word : Text) (position : ℕ) (name : Text) (h : Held) → Sees word plain
      → word_met c [] false (option name) position word h ≡ ((option_word (arg_by_id c name) name word h).0, next (option_word (arg_by_id c name) name word h).1)
  waits_met word position name h sees = rw (sees.0, sees.1, sees.2) refl

  dashes_met : (waiting : Waiting) (position : ℕ) (word : Text) (h : Held) → Sees word dashes → word_met c [] false waiting position word h ≡ (h, trailing position)
  dashes_met idle position word h sees = rw sees refl
  dashes_met positional position word h sees = rw sees refl
  dashes_met (option name) position word h sees = rw sees refl

  dashes_fault : (waiting : Waiting) (word : Text) (h : Held) → Sees word dashes → word_fault (shape form c) [] false waiting word h ≡ []
  dashes_fault idle word h sees = rw sees refl
  dashes_fault positional word h sees = rw sees refl
  dashes_fault (option name) word h sees = rw sees refl

  long_met_is : (waiting : Waiting) (position : ℕ) (word name : Text) (v : Option Text) (h : Held) → Sees word (long name v)
      → word_met c [] false waiting position word h ≡ long_word c waiting word name v h
  long_met_is idle position word name v h sees = rw (sees.0, sees.1) refl
  long_met_is positional position word name v h sees = rw (sees.0, sees.1) refl
  long_met_is (option other) position word name v h sees = rw (sees.0, sees.1) refl

  long_fault_is : (waiting : Waiting) (word name : Text) (v : Option Text) (h : Held) → Sees word (long name v)
      → word_fault (shape form c) [] false waiting word h ≡ long_fault c false (arg_by_long c name) v h
  long_fault_is idle word name v h sees = rw (sees.0, sees.1) refl
  long_fault_is positional word name v h sees = rw (sees.0, sees.1) refl
  long_fault_is (option other) word name v h sees = rw (sees.0, sees.1) refl

  bundle_fault_is : (word : Text) (rows : List Row) (pending : Option (Text × List Text)) (f : HasFlags word) → ((x : ℕ) → arg_by_short c x ≡ None)
      → bundle_fault c false f.flags (held rows pending) ≡ UnknownArgument ∷ []
  unfolding flags_fault
  bundle_fault_is word rows pending f none = rw (f.long, f.begins, none f.first) refl

  short_fault_is : (waiting : Waiting) (word : Text) (rows : List Row) (pending : Option (Text × List Text)) → ((x : ℕ) → arg_by_short c x ≡ None) → Sees word short
      → word_fault (shape form c) [] false waiting word (held rows pending) ≡ UnknownArgument ∷ []
  short_fault_is waiting word rows pending none sees = first waiting ∙ bundle_fault_is word rows pending sees.2 none
    where
      first : (w : Waiting) → word_fault (shape form c) [] false w word (held rows pending) ≡ bundle_fault c false sees.2.flags (held rows pending)
      first idle = rw (sees.0, sees.1, sees.2.behind) refl
      first positional = rw (sees.0, sees.1, sees.2.behind) refl
      first (option other) = rw (sees.0, sees.1, sees.2.behind) refl

  -- ---- every word

  abbrev Ready : List Text → Type 0
  Ready words = (names : List Text) (waiting : Waiting) (position : ℕ) (rows : List Row) (pending : Option (Text × List Text)) → IsReady waiting
      → Places c position names form.rest → AreGiven (settled c (held rows pending)).rows → Reads false names waiting position (held rows pending) words

  -- an option waits for its value in the next word
  abbrev Waits : List Text → Type 0
  Waits words = (names : List Text) (position : ℕ) (rows : List Row) (name : Text) → arg_by_id c name ≡ Some (option_arg name)
      → Places c position names form.rest → AreGiven rows
      → (option_map values_among (outcome (shape form c) (stands (held rows (Some (name, []))) (option name) position false) words)
      ≡ values_from form (at_place names (Some name) false (values_among rows)) words)
      × IfGiven (outcome (shape form c) (stands (held rows (Some (name, []))) (option name) position false) words)

  -- the rule of a word that is an option, and of one that is none
  found_option : AreRulesOf form c → (name chosen : Text) → find (λ x. bytes_eq x name) form.options ≡ Some chosen → arg_by_long c name ≡ Some (option_arg chosen)
  found_option rules name chosen found = rules.long name ∙ ap (λ o. long_arg o (find (λ x. bytes_eq x name) form.flags)) found

  found_flag : AreRulesOf form c → (name : Text) (flag : Option Text) → find (λ x. bytes_eq x name) form.options ≡ None → find (λ x. bytes_eq x name) form.flags ≡ flag
      → arg_by_long c name ≡ option_map flag_arg flag
  found_flag rules name flag none found =
      rules.long name ∙ ap (λ o. long_arg o (find (λ x. bytes_eq x name) form.flags)) none ∙ ap (option_map flag_arg) found

  -- what the form makes of a long word
  long_next : (p : Place) (word : Text) (words : List Text) (name : Text) (v : Option Text) (o : Option Text) → look_of word ≡ long name v
      → find (λ x. bytes_eq x name) form.options ≡ o → p.only_names ≡ false → p.waiting ≡ None
      → values_from form p (word ∷ words) ≡ (as_long form name p v o >>= (λ after. values_from form after words))
  long_next p word words name v o look found only waits =
      values_from-next form p word words
      ∙ (λ i. after_word form word p (only i) (waits i) >>= (λ after. values_from form after words))
      ∙ ap (λ l. as_look form word p l >>= (λ after. values_from form after words)) look
      ∙ ap (λ x. as_long form name p v x >>= (λ after. values_from form after words)) found

  -- the same of a word that is no option
  flag_next : (p : Place) (word : Text) (words : List Text) (name : Text) (v : Option Text) (flag : Option Text) → look_of word ≡ long name v
      → find (λ x. bytes_eq x name) form.options ≡ None → find (λ x. bytes_eq x name) form.flags ≡ flag → p.only_names ≡ false → p.waiting ≡ None
      → values_from form p (word ∷ words) ≡ ((flag >>= (λ x. as_flag x p v)) >>= (λ after. values_from form after words))
  flag_next p word words name v flag look none found only waits =
      long_next p word words name v None look none only waits
      ∙ ap (λ f. (f >>= (λ x. as_flag x p v)) >>= (λ after. values_from form after words)) found

  -- a word that is a use of a rule with these values
  use_step : (word : Text) (words : List Text) (name : Text) (v : Option Text) (a : Rule) (vs : List Text) (with_use : Values → Option Values)
      → Sees word (long name v) → arg_by_long c name ≡ Some a
      → ((h : Held) → long_met c (Some a) v h ≡ (reacted c a vs h, done)) → ((h : Held) → long_fault c false (Some a) v h ≡ react_fault c false a vs h)
      → ((rows : List Row) → option_map values_among (accepted (use_fault false a vs rows) (used a vs rows)) ≡ with_use (values_among rows))
      → ((rows : List Row) → AreGiven rows → AreGiven (used a vs rows))
      → ((names : List Text) (values : Values) → values_from form (at_place names None false values) (word ∷ words)
      ≡ (with_use values >>= (λ after. values_from form (at_place names None false after) words)))
      → Ready words → Ready (word ∷ words)
  use_step word words name v a vs with_use sees found_arg meets faults_as uses gives asks later names waiting position rows0 pending ready places given =
      let h = held rows0 pending in
      let rows = (settled c h).rows in
      let after_rows = used a vs rows in
      let fault = use_fault false a vs rows in
      let rest = outcome (shape form c) (stands (held after_rows None) idle position false) words in
      let met : word_met c [] false waiting position word h ≡ (held after_rows None, next idle) =
      long_met_is waiting position word name v h sees
      ∙ ap (λ o. after_flag c waiting word (long_met c o v h).0 (long_met c o v h).1) found_arg
      ∙ ap (λ m. after_flag c waiting word m.0 m.1) (meets h) in
      let faults : word_fault (shape form c) [] false waiting word h ≡ or_else (settle_fault c false h) fault =
      long_fault_is waiting word name v h sees ∙ ap (λ o. long_fault c false o v h) found_arg ∙ faults_as h in
      let walk : outcome (shape form c) (stands h waiting position false) (word ∷ words) ≡ after (settle_fault c false h) (after fault rest) =
      outcome-met (shape form c) h (held after_rows None) waiting position false word words (next idle) met
      ∙ ap (λ t. after (or_else t []) rest) faults
      ∙ ap (λ t. after t rest) (or_else-nil (or_else (settle_fault c false h) fault))
      ∙ after-or_else (settle_fault c false h) fault rest in
      let on = later names idle position after_rows None tt places (gives rows given) in
      let g : Values → Option Values = λ values. values_from form (at_place names None false values) (word ∷ words) in
      let k : Values → Option Values = λ values. values_from form (at_place names None false values) words in
      let one = step_on fault after_rows rest (Some (values_among after_rows)) k k on.0 refl
      ∙ ap (λ o. o >>= k) (uses rows) in (
        ap (option_map values_among) walk
            ∙ step_on (settle_fault c false h) rows (after fault rest) (with_use (values_among rows)) g k one (sym (asks names (values_among rows))),
        subst IfGiven (sym walk) (after-given (settle_fault c false h) (after fault rest) (after-given fault rest on.1)),
      )

  attached_step : AreRulesOf form c → (word : Text) (words : List Text) (name v chosen : Text) → look_of word ≡ long name (Some v) → Sees word (long name (Some v))
      → find (λ x. bytes_eq x name) form.options ≡ Some chosen → Ready words → Ready (word ∷ words)
  attached_step rules word words name v chosen look sees found =
      use_step word words name (Some v) (option_arg chosen) (v ∷ []) (with_only chosen v) sees (found_option rules name chosen found) (λ h. refl) (λ h. refl)
      (option_use chosen v) (option_given chosen v)
      (λ names values. long_next (at_place names None false values) word words name (Some v) (Some chosen) look found refl refl
      ∙ bind-some (with_only chosen v values) (λ after. at_place names None false after) (λ p. values_from form p words))

  flag_step : AreRulesOf form c → (word : Text) (words : List Text) (name flag : Text) → look_of word ≡ long name None → Sees word (long name None)
      → find (λ x. bytes_eq x name) form.options ≡ None → find (λ x. bytes_eq x name) form.flags ≡ Some flag → Ready words → Ready (word ∷ words)
  flag_step rules word words name flag look sees none found =
      use_step word words name None (flag_arg flag) [] (with_flag flag) sees (found_flag rules name (Some flag) none found) (λ h. refl) (λ h. refl)
      (flag_use flag) (flag_given flag)
      (λ names values. flag_next (at_place names None false values) word words name None (Some flag) look none found refl refl
      ∙ bind-some (with_flag flag values) (λ after. at_place names None false after) (λ p. values_from form p words))

  apart_step : AreRulesOf form c → (word : Text) (words : List Text) (name chosen : Text) → look_of word ≡ long name None → Sees word (long name None)
      → find (λ x. bytes_eq x name) form.options ≡ Some chosen → Waits words → Ready (word ∷ words)
  apart_step rules word words name chosen look sees found later names waiting position rows0 pending ready places given =
      let h = held rows0 pending in
      let rows = (settled c h).rows in
      let found_arg = found_option rules name chosen found in
      let rest = outcome (shape form c) (stands (held rows (Some (chosen, []))) (option chosen) position false) words in
      let met : word_met c [] false waiting position word h ≡ (held rows (Some (chosen, [])), next (option chosen)) =
      long_met_is waiting position word name None h sees
      ∙ ap (λ o. after_flag c waiting word (long_met c o None h).0 (long_met c o None h).1) found_arg in
      let faults : word_fault (shape form c) [] false waiting word h ≡ settle_fault c false h =
      long_fault_is waiting word name None h sees ∙ ap (λ o. long_fault c false o None h) found_arg in
      let walk : outcome (shape form c) (stands h waiting position false) (word ∷ words) ≡ after (settle_fault c false h) rest =
      outcome-met (shape form c) h (held rows (Some (chosen, []))) waiting position false word words (next (option chosen)) met
      ∙ ap (λ t. after (or_else t []) rest) faults
      ∙ ap (λ t. after t rest) (or_else-nil (settle_fault c false h)) in
      let on = later names position rows chosen (known_option c form.options name chosen rules.known found) places given in
      let g : Values → Option Values = λ values. values_from form (at_place names None false values) (word ∷ words) in
      let k : Values → Option Values = λ values. values_from form (at_place names (Some chosen) false values) words in
      let form_next : k (values_among rows) ≡ g (values_among rows) =
      sym (long_next (at_place names None false (values_among rows)) word words name None (Some chosen) look found refl refl) in (
        ap (option_map values_among) walk ∙ step_on (settle_fault c false h) rows rest (Some (values_among rows)) g k on.0 form_next,
        subst IfGiven (sym walk) (after-given (settle_fault c false h) rest on.1),
      )

  -- a long word that is neither
  unknown_step : AreRulesOf form c → (word : Text) (words : List Text) (name : Text) (v : Option Text) → look_of word ≡ long name v → Sees word (long name v)
      → find (λ x. bytes_eq x name) form.options ≡ None → find (λ x. bytes_eq x name) form.flags ≡ None → Ready (word ∷ words)
  unknown_step rules word words name v look sees none found names waiting position rows pending ready places given =
      let h = held rows pending in
      let fault : word_fault (shape form c) [] false waiting word h ≡ UnknownArgument ∷ [] =
      long_fault_is waiting word name v h sees ∙ ap (λ o. long_fault c false o v h) (found_flag rules name None none found) in
      none_step false names waiting position h (word ∷ words) (fails h waiting position word words UnknownArgument [] fault)
      (flag_next (at_place names None false (values_among (settled c h).rows)) word words name v None look none found refl refl)

  -- a flag with a value
  valued_step : AreRulesOf form c → (word : Text) (words : List Text) (name v flag : Text) → look_of word ≡ long name (Some v) → Sees word (long name (Some v))
      → find (λ x. bytes_eq x name) form.options ≡ None → find (λ x. bytes_eq x name) form.flags ≡ Some flag → Ready (word ∷ words)
  valued_step rules word words name v flag look sees none found names waiting position rows pending ready places given =
      let h = held rows pending in
      let fault : word_fault (shape form c) [] false waiting word h ≡ TooManyValues ∷ [] =
      long_fault_is waiting word name (Some v) h sees ∙ ap (λ o. long_fault c false o (Some v) h) (found_flag rules name (Some flag) none found) in
      none_step false names waiting position h (word ∷ words) (fails h waiting position word words TooManyValues [] fault)
      (flag_next (at_place names None false (values_among (settled c h).rows)) word words name (Some v) (Some flag) look none found refl refl)

  plain_step : (word : Text) (words : List Text) → look_of word ≡ plain → Sees word plain → Ready words → Ready (word ∷ words)
  plain_step word words look sees later names waiting position rows pending ready places given =
      place_step false names waiting position (held rows pending) word words places given
      (plain_met waiting ready position word (held rows pending) sees) (plain_fault waiting word (held rows pending) sees) refl
      (λ p. ap (as_look form word p) look)
      (λ id left w place is_ready left_places left_given. later left w place (settled c (held rows pending)).rows (Some (id, word ∷ [])) is_ready left_places left_given)

  dashes_step : (word : Text) (words : List Text) → look_of word ≡ dashes → Sees word dashes → Ready (word ∷ words)
  dashes_step word words look sees names waiting position rows pending ready places given =
      let h = held rows pending in
      let on = trails words names waiting position h places given in
      let walk : outcome (shape form c) (stands h waiting position false) (word ∷ words) ≡ outcome (shape form c) (stands h waiting position true) words =
      outcome-met (shape form c) h h waiting position false word words (trailing position) (dashes_met waiting position word h sees)
      ∙ ap (λ t. after (or_else t []) (outcome (shape form c) (stands h waiting position true) words)) (dashes_fault waiting word h sees) in
      let form_next : (values : Values) → values_from form (at_place names None true values) words ≡ values_from form (at_place names None false values) (word ∷ words) =
      λ values. sym (values_from-next form (at_place names None false values) word words
      ∙ ap (λ l. as_look form word (at_place names None false values) l >>= (λ after. values_from form after words)) look) in (
        ap (option_map values_among) walk ∙ on.0 ∙ ap (λ k. option_map values_among (now (shape form c) h) >>= k) (λ i values. form_next values i),
        subst IfGiven (sym walk) on.1,
      )

  long_step : AreRulesOf form c → (word : Text) (words : List Text) (name : Text) (v : Option Text) → look_of word ≡ long name v → Sees word (long name v)
      → Ready words → Waits words → Ready (word ∷ words)
  long_step rules word words name v look sees later waits = go v (find (λ x. bytes_eq x name) form.options) (find (λ x. bytes_eq x name) form.flags) refl refl look sees
    where
      go : (u o f : Option Text) → find (λ x. bytes_eq x name) form.options ≡ o → find (λ x. bytes_eq x name) form.flags ≡ f → look_of word ≡ long name u → Sees word (long name u)
          → Ready (word ∷ words)
      go (Some given) (Some chosen) f found other look sees = attached_step rules word words name given chosen look sees found later
      go None (Some chosen) f found other look sees = apart_step rules word words name chosen look sees found waits
      go u None None found other look sees = unknown_step rules word words name u look sees found other
      go (Some given) None (Some flag) found other look sees = valued_step rules word words name given flag look sees found other
      go None None (Some flag) found other look sees = flag_step rules word words name flag look sees found other later

  short_step : AreRulesOf form c → (word : Text) (words : List Text) → look_of word ≡ short → Sees word short → Ready (word ∷ words)
  short_step rules word words look sees names waiting position rows pending ready places given =
      let h = held rows pending in
      let p = at_place names None false (values_among (settled c h).rows) in
      none_step false names waiting position h (word ∷ words)
      (fails h waiting position word words UnknownArgument [] (short_fault_is waiting word rows pending rules.short sees))
      (values_from-next form p word words ∙ ap (λ l. as_look form word p l >>= (λ after. values_from form after words)) look)

  ready_next : AreRulesOf form c → (word : Text) (words : List Text) (look : Look) → look_of word ≡ look → Sees word look → Ready words → Waits words → Ready (word ∷ words)
  ready_next rules word words plain look sees later waits = plain_step word words look sees later
  ready_next rules word words dashes look sees later waits = dashes_step word words look sees
  ready_next rules word words (long name v) look sees later waits = long_step rules word words name v look sees later waits
  ready_next rules word words short look sees later waits = short_step rules word words look sees

  -- ---- where an option waits

  -- an option that has no value
  no_value : (rows : List Row) (name : Text) → arg_by_id c name ≡ Some (option_arg name) → settle_fault c false (held rows (Some (name, []))) ≡ InvalidValue ∷ []
  no_value rows name known = ap (λ o. option_map_or (λ a. use_fault false a [] rows) o []) known

  lacks_value : (words : List Text) (names : List Text) (waiting : Waiting) (position : ℕ) (rows : List Row) (name : Text) → arg_by_id c name ≡ Some (option_arg name)
      → Places c position names form.rest → outcome (shape form c) (stands (held rows (Some (name, []))) waiting position true) words ≡ None
  lacks_value [] names waiting position rows name known places =
      outcome-nil (shape form c) (stands (held rows (Some (name, []))) waiting position true)
      ∙ ap (λ kinds. accepted kinds (settled c (held rows (Some (name, [])))).rows) (no_value rows name known)
  lacks_value (word ∷ words) (n ∷ names) waiting position rows name known places =
      name_walk places.0 (held rows (Some (name, []))) waiting position true word words n places.1 refl refl
      ∙ ap (λ t. after t (outcome (shape form c) (stands (pended c (held rows (Some (name, []))) n word) idle (min (position + 1) usize_max) true) words)) (no_value rows name known)
  lacks_value (word ∷ words) [] waiting position rows name known places = go form.rest places
    where
      go : (rest : Option Text) → LastPlace c position rest → outcome (shape form c) (stands (held rows (Some (name, []))) waiting position true) (word ∷ words) ≡ None
      go None place = stray_walk (held rows (Some (name, []))) waiting position true word words place refl refl
      go (Some n) place =
          rest_walk (held rows (Some (name, []))) waiting position true word words n place.0 refl refl
          ∙ ap (λ t. after t (outcome (shape form c) (stands (pended c (held rows (Some (name, []))) n word) positional position true) words)) (no_value rows name known)

  value_next : (names : List Text) (name : Text) (values : Values) (word : Text) (words : List Text) (look : Look) → look_of word ≡ look
      → values_from form (at_place names (Some name) false values) (word ∷ words)
      ≡ (as_value name word (at_place names (Some name) false values) look >>= (λ after. values_from form after words))
  value_next names name values word words look is =
      values_from-next form (at_place names (Some name) false values) word words
      ∙ ap (λ l. as_value name word (at_place names (Some name) false values) l >>= (λ after. values_from form after words)) is

  -- the word is the option's value
  value_step : (word : Text) (words : List Text) → look_of word ≡ plain → Sees word plain → Ready words → Waits (word ∷ words)
  value_step word words look sees later names position rows name known places given =
      let h = held rows (Some (name, [])) in
      let h' = held rows (Some (name, word ∷ [])) in
      let rest = outcome (shape form c) (stands h' idle position false) words in
      let takes : option_word (Some (option_arg name)) name word h ≡ (h', idle) =
      ap (λ b. (h', cond (nat_lt (cond b 1 0) 1) (option name) idle)) (bytes_eq_refl name) in
      let met : word_met c [] false (option name) position word h ≡ (h', next idle) =
      waits_met word position name h sees
      ∙ ap (λ o. ((option_word o name word h).0, next (option_word o name word h).1)) known
      ∙ ap (λ (p : Held × Waiting). (p.0, next p.1)) takes in
      let walk : outcome (shape form c) (stands h (option name) position false) (word ∷ words) ≡ rest =
      outcome-met (shape form c) h h' (option name) position false word words (next idle) met
      ∙ ap (λ t. after (or_else t []) rest) (plain_fault (option name) word h sees) in
      let settled_rows : (settled c h').rows ≡ used (option_arg name) (word ∷ []) rows = ap (λ o. used_by_id o (word ∷ []) rows) known in
      let on = later names idle position rows (Some (name, word ∷ [])) tt places (subst AreGiven (sym settled_rows) (option_given name word rows given)) in
      let now_is : option_map values_among (now (shape form c) h') ≡ with_only name word (values_among rows) =
      ap (λ o. option_map values_among (accepted (option_map_or (λ a. use_fault false a (word ∷ []) rows) o []) (used_by_id o (word ∷ []) rows))) known
      ∙ option_use name word rows in
      let k : Values → Option Values = λ values. values_from form (at_place names None false values) words in (
        ap (option_map values_among) walk ∙ on.0 ∙ ap (λ o. o >>= k) now_is
            ∙ sym (value_next names name (values_among rows) word words plain look
            ∙ bind-some (with_only name word (values_among rows)) (λ values. at_place names None false values) (λ p. values_from form p words)),
        subst IfGiven (sym walk) on.1,
      )

  long_lacks : AreRulesOf form c → (word n : Text) (v : Option Text) (rows : List Row) (name : Text) → arg_by_id c name ≡ Some (option_arg name) → Sees word (long n v)
      → (kind : ErrorKind) × (kinds : Kinds) × (word_fault (shape form c) [] false (option name) word (held rows (Some (name, []))) ≡ kind ∷ kinds)
  long_lacks rules word n v rows name known sees = go (find (λ x. bytes_eq x n) form.options) (find (λ x. bytes_eq x n) form.flags) refl refl
    where
      h : Held
      h = held rows (Some (name, []))

      first : (a : Option Rule) → arg_by_long c n ≡ a → word_fault (shape form c) [] false (option name) word h ≡ long_fault c false a v h
      first a found = long_fault_is (option name) word n v h sees ∙ ap (λ o. long_fault c false o v h) found

      option_lacks : (chosen : Text) (u : Option Text) → (kinds : Kinds) × (long_fault c false (Some (option_arg chosen)) u h ≡ InvalidValue ∷ kinds)
      option_lacks chosen None = ([], no_value rows name known)
      option_lacks chosen (Some u) =
          ([], ap (λ t. or_else t (use_fault false (option_arg chosen) (u ∷ []) (settled c h).rows)) (no_value rows name known))

      flag_lacks : (flag : Text) (u : Option Text) → (kind : ErrorKind) × (kinds : Kinds) × (long_fault c false (Some (flag_arg flag)) u h ≡ kind ∷ kinds)
      flag_lacks flag None = (InvalidValue, [], ap (λ t. or_else t (use_fault false (flag_arg flag) [] (settled c h).rows)) (no_value rows name known))
      flag_lacks flag (Some u) = (TooManyValues, [], refl)

      go : (o f : Option Text) → find (λ x. bytes_eq x n) form.options ≡ o → find (λ x. bytes_eq x n) form.flags ≡ f
          → (kind : ErrorKind) × (kinds : Kinds) × (word_fault (shape form c) [] false (option name) word h ≡ kind ∷ kinds)
      go (Some chosen) f found other = (InvalidValue, (option_lacks chosen v).0, first (Some (option_arg chosen)) (found_option rules n chosen found) ∙ (option_lacks chosen v).1)
      go None None none found = (UnknownArgument, [], first None (found_flag rules n None none found))
      go None (Some flag) none found = ((flag_lacks flag v).0, (flag_lacks flag v).1, first (Some (flag_arg flag)) (found_flag rules n (Some flag) none found) ∙ (flag_lacks flag v).2)

  waits_end : (names : List Text) (position : ℕ) (rows : List Row) (name : Text) → arg_by_id c name ≡ Some (option_arg name)
      → (option_map values_among (outcome (shape form c) (stands (held rows (Some (name, []))) (option name) position false) [])
      ≡ values_from form (at_place names (Some name) false (values_among rows)) [])
      × IfGiven (outcome (shape form c) (stands (held rows (Some (name, []))) (option name) position false) [])
  unfolding values_from
  waits_end names position rows name known =
      let walk : outcome (shape form c) (stands (held rows (Some (name, []))) (option name) position false) [] ≡ None =
      outcome-nil (shape form c) (stands (held rows (Some (name, []))) (option name) position false)
      ∙ ap (λ kinds. accepted kinds (settled c (held rows (Some (name, [])))).rows) (no_value rows name known) in
      (ap (option_map values_among) walk, subst IfGiven (sym walk) tt)

  -- the word is none
  no_value_step : (word : Text) (words : List Text) (names : List Text) (position : ℕ) (rows : List Row) (name : Text)
      → outcome (shape form c) (stands (held rows (Some (name, []))) (option name) position false) (word ∷ words) ≡ None
      → values_from form (at_place names (Some name) false (values_among rows)) (word ∷ words) ≡ None
      → (option_map values_among (outcome (shape form c) (stands (held rows (Some (name, []))) (option name) position false) (word ∷ words))
      ≡ values_from form (at_place names (Some name) false (values_among rows)) (word ∷ words))
      × IfGiven (outcome (shape form c) (stands (held rows (Some (name, []))) (option name) position false) (word ∷ words))
  no_value_step word words names position rows name walk none = (ap (option_map values_among) walk ∙ sym none, subst IfGiven (sym walk) tt)

  waits_next : AreRulesOf form c → (word : Text) (words : List Text) (look : Look) → look_of word ≡ look → Sees word look → Ready words → Waits (word ∷ words)
  waits_next rules word words plain look sees later = value_step word words look sees later
  waits_next rules word words dashes look sees later = λ names position rows name known places given.
      let h = held rows (Some (name, [])) in
      no_value_step word words names position rows name
      (outcome-met (shape form c) h h (option name) position false word words (trailing position) (dashes_met (option name) position word h sees)
      ∙ ap (λ t. after (or_else t []) (outcome (shape form c) (stands h (option name) position true) words)) (dashes_fault (option name) word h sees)
      ∙ lacks_value words names (option name) position rows name known places)
      (value_next names name (values_among rows) word words dashes look)
  waits_next rules word words (long n v) look sees later = λ names position rows name known places given.
      let h = held rows (Some (name, [])) in
      let fault = long_lacks rules word n v rows name known sees in
      no_value_step word words names position rows name
      (fails h (option name) position word words fault.0 fault.1 fault.2)
      (value_next names name (values_among rows) word words (long n v) look)
  waits_next rules word words short look sees later = λ names position rows name known places given.
      let h = held rows (Some (name, [])) in
      no_value_step word words names position rows name
      (fails h (option name) position word words UnknownArgument [] (short_fault_is (option name) word rows (Some (name, [])) rules.short sees))
      (value_next names name (values_among rows) word words short look)

  pub all : AreRulesOf form c → (words : List Text) → AllByRecursion IsUtf8 words → Ready words × Waits words
  all rules [] text = (
    λ names waiting position rows pending ready places given. read_end false names waiting position (held rows pending) given,
    λ names position rows name known places given. waits_end names position rows name known,
  )
  all rules (word ∷ words) text =
      let later = all rules words text.1 in
      (ready_next rules word words (look_of word) refl (sees word text.0) later.0 later.1, waits_next rules word words (look_of word) refl (sees word text.0) later.0)

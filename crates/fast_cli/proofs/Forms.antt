-- For each form, what clap finds in words is what the words give by the form.
use Rattle.std.proofs.Common.{◌≡◌, ◌∙◌, Bool, cond, true, false, List, [], ◌∷◌, ◌++◌, refl, ap, ap₂, codes, map}
use Rattle.std.specs.Prelude.{◌&&◌, ◌||◌, Option, Some, None, find, fold, is_some, length, not, ◌==◌, option_map, if◌then◌else◌}
use Rattle.std.specs.List.{AllByRecursion, list_all}
use Rattle.std.specs.Str.{IsUtf8, bytes_eq}
use Rattle.clap.proofs.OnLiterals.{clap_on_literals}
use Rattle.clap.specs.Faults.{built_fault, is_simple_and_free, check_fault, default_fault, defaults_fault, entered_fault, given_default_fault, level_fault, settle_fault, walk_fault}
use Rattle.clap.specs.Kinds.{Kinds, or_else}
use Rattle.clap.specs.Simple.{App, Shape, argument_words, built, entered, names_of}
use Rattle.clap.specs.Takes.{is_given}
use Rattle.clap.specs.Walk.{Row, Rule, default_rows, has_long, has_row, idle, nothing_held, reading_by, rows_after, settled, walk, walk_from, with_default}
use Rattle.clap.specs.declared.error.kind.ErrorKind.TheVariants.{MissingRequiredArgument}
use Rattle.fast_cli.specs.Words.{◌>>=◌, Form, Text, Values, has_names, rest_names, values_in}
use Rattle.fast_cli.specs.Command.{ReadsAs, accepted, command_by, parsed, values_among}
use Rattle.fast_cli.specs.Line.{back_form, count_form, func_form, gdb_form, inorder_form, run_form, sched_form, soak_form, sweep_form, trace_form, watch_form}
use Rattle.fast_cli.specs.Table.{command_in}
use Rattle.fast_cli.specs.declared.table.CommandName.{CommandName}
use Rattle.fast_cli.specs.declared.table.CommandName.TheVariants as names
use Rattle.fast_cli.proofs.Rows.{AreGiven, is_given-values}
use Rattle.fast_cli.proofs.Uses.{AreRulesOf, NoDefaults, built_shape, flag_arg, long_arg, option_arg, rest_arg}
use Rattle.fast_cli.proofs.Walks.{IfGiven, outcome}
use Rattle.fast_cli.proofs.Readings.{all}

-- ---- after the walk

either_same : {A : Type 0} (b : Bool) (x : A) → cond b x x ≡ x
either_same true x = refl
either_same false x = refl

or_true : {A : Type 0} (b : Bool) (x y : A) → cond (b || true) x y ≡ x
or_true true x y = refl
or_true false x y = refl

with_default-none : (rows : List Row) (a : Rule) → a.defaults ≡ [] → with_default rows a ≡ rows
with_default-none rows a none = ap (λ vs. cond (has_row a.id rows) rows (default_rows a.id (reading_by a) vs rows)) none ∙ either_same (has_row a.id rows) rows

default_fault-none : (rows : List Row) (a : Rule) → a.defaults ≡ [] → default_fault rows a ≡ []
default_fault-none rows a none =
    ap (λ (vs : List Text). cond (has_row a.id rows || (length vs == 0)) [] (given_default_fault a vs)) none
    ∙ or_true (has_row a.id rows) [] (given_default_fault a [])

defaults_fault-none : (c : List Rule) → NoDefaults c → (rows : List Row) → defaults_fault rows c ≡ []
unfolding defaults_fault
defaults_fault-none [] none rows = refl
defaults_fault-none (a ∷ rest) none rows =
    ap (λ kinds. or_else kinds (defaults_fault (with_default rows a) rest)) (default_fault-none rows a none.0) ∙ defaults_fault-none rest none.1 (with_default rows a)

fold-none : (c : List Rule) → NoDefaults c → (rows : List Row) → fold with_default rows c ≡ rows
fold-none [] none rows = refl
fold-none (a ∷ rest) none rows = ap (λ r. fold with_default r rest) (with_default-none rows a none.0) ∙ fold-none rest none.1 rows

entered-none : (s : Shape) (stop : Option (Text × List Text)) → is_some (entered (record { top = s; subs = [] }) stop) ≡ false
entered-none s None = refl
entered-none s (Some p) = refl

entered_fault-none : (s : Shape) (stop : Option (Text × List Text)) → entered_fault (record { top = s; subs = [] }) stop ≡ []
entered_fault-none s None = refl
entered_fault-none s (Some p) = refl

all_given : (names : List Text) (rows : List Row) → AreGiven rows → list_all (λ name. is_given name rows) names ≡ list_all (λ name. is_some (values_among rows name)) names
all_given [] rows given = refl
all_given (name ∷ names) rows given = ap₂ (λ a b. a && b) (is_given-values name rows given) (all_given names rows given)

missing : (b : Bool) (values : Values) → accepted (cond (not b) (MissingRequiredArgument ∷ []) []) values ≡ cond b (Some values) None
missing true values = refl
missing false values = refl

checked : (form : Form) (c : List Rule) → AreRulesOf form c → (rows : List Row) → AreGiven rows
    → accepted (check_fault (built_shape form.word c) rows false) (values_among rows) ≡ (if has_names form (values_among rows) then Some (values_among rows) else None)
checked form c rules rows given =
    ap (λ b. accepted (cond b (MissingRequiredArgument ∷ []) []) (values_among rows))
    (rules.needs rows ∙ ap not (all_given (form.names ++ rest_names form.rest) rows given))
    ∙ missing (has_names form (values_among rows)) (values_among rows)

last : (f : Kinds) (rows : List Row) (kinds : Kinds) (g : Values → Option Values) → IfGiven (accepted f rows)
    → (AreGiven rows → accepted kinds (values_among rows) ≡ g (values_among rows))
    → accepted (or_else f kinds) (values_among rows) ≡ (option_map values_among (accepted f rows) >>= g)
last [] rows kinds g given same = same given
last (k ∷ ks) rows kinds g given same = refl

assoc : (a b c : Kinds) → or_else a (or_else b c) ≡ or_else (or_else a b) c
assoc [] b c = refl
assoc (k ∷ ks) b c = refl

pub parsed-form : (form : Form) (c : List Rule) → AreRulesOf form c → (words : List Text) → AllByRecursion IsUtf8 words
    → accepted (built_fault (record { top = built_shape form.word c; subs = [] }) nothing_held words) (values_among (rows_after c [] words)) ≡ values_in form words
unfolding values_in outcome
parsed-form form c rules words text =
    let s = built_shape form.word c in
    let a : App = record { top = s; subs = [] } in
    let end = (walk c [] nothing_held words).held in
    let stop = (walk c [] nothing_held words).stopped in
    let rows = (settled c end).rows in
    let walk_kinds = walk_fault s [] (walk_from nothing_held) words in
    let end_kinds = settle_fault c false end in
    let on = (all form c rules words text).0 (form.names ++ form.optional) idle 1 [] None tt rules.places refl in
    let g : Values → Option Values = λ values. if has_names form values then Some values else None in
    let level : built_fault a nothing_held words ≡ or_else walk_kinds (or_else end_kinds (check_fault s rows false)) =
    (λ i. level_fault s [] nothing_held words (entered-none s stop i) (entered_fault-none s stop i))
    ∙ (λ i. or_else walk_kinds (or_else end_kinds (or_else (defaults_fault-none c rules.defaults rows i) (check_fault s (fold-none c rules.defaults rows i) false)))) in
    ap₂ (λ kinds r. accepted kinds (values_among r)) level (fold-none c rules.defaults rows)
    ∙ ap (λ kinds. accepted kinds (values_among rows)) (assoc walk_kinds end_kinds (check_fault s rows false))
    ∙ last (or_else walk_kinds end_kinds) rows (check_fault s rows false) g on.1 (checked form c rules rows)
    ∙ ap (λ o. o >>= g) on.0

-- ---- each form

-- flags come by their names, and nothing else that is long
long_flags : (name : Text) (flags : List Text) (rest : List Rule) → find (λ a. not (is_some a.index) && has_long a name) rest ≡ None
    → find (λ a. not (is_some a.index) && has_long a name) (map flag_arg flags ++ rest) ≡ option_map flag_arg (find (λ flag. bytes_eq flag name) flags)
long_flags name [] rest none = none
long_flags name (flag ∷ flags) rest none = go (bytes_eq flag name) (long_flags name flags rest none)
  where
    go : (b : Bool) → find (λ a. not (is_some a.index) && has_long a name) (map flag_arg flags ++ rest) ≡ option_map flag_arg (find (λ f. bytes_eq f name) flags)
        → cond (b || false) (Some (flag_arg flag)) (find (λ a. not (is_some a.index) && has_long a name) (map flag_arg flags ++ rest))
        ≡ option_map flag_arg (cond b (Some flag) (find (λ f. bytes_eq f name) flags))
    go true later = refl
    go false later = later

-- and options before them
long_options : (name : Text) (options flags : List Text) (rest : List Rule) → find (λ a. not (is_some a.index) && has_long a name) rest ≡ None
    → find (λ a. not (is_some a.index) && has_long a name) (map option_arg options ++ (map flag_arg flags ++ rest))
    ≡ long_arg (find (λ option. bytes_eq option name) options) (find (λ flag. bytes_eq flag name) flags)
long_options name [] flags rest none = long_flags name flags rest none
long_options name (option ∷ options) flags rest none = go (bytes_eq option name) (long_options name options flags rest none)
  where
    go : (b : Bool) → find (λ a. not (is_some a.index) && has_long a name) (map option_arg options ++ (map flag_arg flags ++ rest))
        ≡ long_arg (find (λ o. bytes_eq o name) options) (find (λ f. bytes_eq f name) flags)
        → cond (b || false) (Some (option_arg option)) (find (λ a. not (is_some a.index) && has_long a name) (map option_arg options ++ (map flag_arg flags ++ rest)))
        ≡ long_arg (cond b (Some option) (find (λ o. bytes_eq o name) options)) (find (λ f. bytes_eq f name) flags)
    go true later = refl
    go false later = later

needs_one : (a : Bool) → (not a || false) ≡ not (a && true)
needs_one true = refl
needs_one false = refl

needs_two : (a b : Bool) → (not a || (not b || false)) ≡ not (a && (b && true))
needs_two true b = needs_one b
needs_two false b = refl

needs_three : (a b c : Bool) → (not a || (not b || (not c || false))) ≡ not (a && (b && (c && true)))
needs_three true b c = needs_two b c
needs_three false b c = refl

abbrev rules_of : Form → List Rule
rules_of form = (built (command_by form)).top.rules

func_rules : AreRulesOf func_form (rules_of func_form)
func_rules = record {
  long = λ name. long_options name func_form.options func_form.flags [] refl;
  short = λ x. refl;
  known = (refl, (refl, (refl, (refl, tt))));
  places = (true, refl, refl, refl);
  defaults = (refl, (refl, (refl, (refl, (refl, (refl, tt))))));
  needs = λ rows. needs_one (is_given (codes "IMAGE") rows);
}

run_rules : AreRulesOf run_form (rules_of run_form)
run_rules = record {
  long = λ name. long_options name run_form.options run_form.flags [] refl;
  short = λ x. refl;
  known = (refl, (refl, (refl, (refl, (refl, (refl, tt))))));
  places = (true, refl, refl, (true, refl, refl, refl));
  defaults = (refl, (refl, (refl, (refl, (refl, (refl, (refl, (refl, (refl, tt)))))))));
  needs = λ rows. needs_two (is_given (codes "IMAGE") rows) (is_given (codes "MACHINE") rows);
}

sched_rules : AreRulesOf sched_form (rules_of sched_form)
sched_rules = record {
  long = λ name. long_options name sched_form.options sched_form.flags [] refl;
  short = λ x. refl;
  known = (refl, (refl, (refl, (refl, tt))));
  places = (true, refl, refl, (true, refl, refl, (true, refl, refl, refl)));
  defaults = (refl, (refl, (refl, (refl, (refl, (refl, (refl, tt)))))));
  needs = λ rows. needs_three (is_given (codes "IMAGE") rows) (is_given (codes "MACHINE") rows) (is_given (codes "PLAN") rows);
}

inorder_rules : AreRulesOf inorder_form (rules_of inorder_form)
inorder_rules = record {
  long = λ name. long_options name inorder_form.options inorder_form.flags [] refl;
  short = λ x. refl;
  known = (refl, (refl, (refl, (refl, tt))));
  places = (true, refl, refl, (true, refl, refl, (false, refl, refl, refl)));
  defaults = (refl, (refl, (refl, (refl, (refl, (refl, (refl, (refl, tt))))))));
  needs = λ rows. needs_two (is_given (codes "IMAGE") rows) (is_given (codes "MACHINE") rows);
}

soak_rules : AreRulesOf soak_form (rules_of soak_form)
soak_rules = record {
  long = λ name. refl;
  short = λ x. refl;
  known = tt;
  places = (true, refl, refl, refl);
  defaults = (refl, tt);
  needs = λ rows. needs_one (is_given (codes "SEED") rows);
}

back_rules : AreRulesOf back_form (rules_of back_form)
back_rules = record {
  long = λ name. long_options name back_form.options back_form.flags [] refl;
  short = λ x. refl;
  known = (refl, (refl, (refl, (refl, (refl, tt)))));
  places = (true, refl, refl, (true, refl, refl, refl));
  defaults = (refl, (refl, (refl, (refl, (refl, (refl, (refl, tt)))))));
  needs = λ rows. needs_two (is_given (codes "IMAGE") rows) (is_given (codes "SCRIPT") rows);
}

sweep_rules : AreRulesOf sweep_form (rules_of sweep_form)
sweep_rules = record {
  long = λ name. long_options name sweep_form.options sweep_form.flags (rest_arg 2 (codes "MACHINES") ∷ []) refl;
  short = λ x. refl;
  known = (refl, (refl, (refl, (refl, (refl, tt)))));
  places = (true, refl, refl, (refl, refl));
  defaults = (refl, (refl, (refl, (refl, (refl, (refl, (refl, tt)))))));
  needs = λ rows. needs_two (is_given (codes "IMAGE") rows) (is_given (codes "MACHINES") rows);
}

trace_rules : AreRulesOf trace_form (rules_of trace_form)
trace_rules = record {
  long = λ name. long_options name trace_form.options trace_form.flags [] refl;
  short = λ x. refl;
  known = (refl, (refl, (refl, (refl, (refl, (refl, tt))))));
  places = (true, refl, refl, (true, refl, refl, refl));
  defaults = (refl, (refl, (refl, (refl, (refl, (refl, (refl, (refl, tt))))))));
  needs = λ rows. needs_two (is_given (codes "IMAGE") rows) (is_given (codes "MACHINE") rows);
}

watch_rules : (word : Text) → AreRulesOf (watch_form word) (rules_of (watch_form word))
watch_rules word = record {
  long = λ name. long_options name (watch_form word).options (watch_form word).flags [] refl;
  short = λ x. refl;
  known = (refl, (refl, (refl, (refl, tt))));
  places = (true, refl, refl, (true, refl, refl, refl));
  defaults = (refl, (refl, (refl, (refl, (refl, (refl, tt))))));
  needs = λ rows. needs_two (is_given (codes "IMAGE") rows) (is_given (codes "MACHINE") rows);
}

count_rules : AreRulesOf count_form (rules_of count_form)
count_rules = record {
  long = λ name. long_options name count_form.options count_form.flags [] refl;
  short = λ x. refl;
  known = (refl, (refl, (refl, (refl, tt))));
  places = (true, refl, refl, refl);
  defaults = (refl, (refl, (refl, (refl, (refl, tt)))));
  needs = λ rows. needs_one (is_given (codes "IMAGE") rows);
}

gdb_rules : AreRulesOf gdb_form (rules_of gdb_form)
gdb_rules = record {
  long = λ name. long_options name gdb_form.options gdb_form.flags [] refl;
  short = λ x. refl;
  known = (refl, (refl, (refl, (refl, (refl, tt)))));
  places = (true, refl, refl, refl);
  defaults = (refl, (refl, (refl, (refl, (refl, (refl, tt))))));
  needs = λ rows. needs_one (is_given (codes "IMAGE") rows);
}

reads-free : (form : Form) → is_simple_and_free (command_by form) ≡ true → built (command_by form) ≡ record { top = built_shape form.word (rules_of form); subs = [] }
    → ((words : List Text) → argument_words (command_by form) words ≡ words) → AreRulesOf form (rules_of form) → ReadsAs form
unfolding parsed
reads-free form free builds same_words rules = record {
  is_read = free;
  gives = λ words text.
      (λ i. accepted (built_fault (builds i) nothing_held (same_words words i)) (values_among (rows_after (builds i).top.rules (names_of (builds i)) (same_words words i))))
      ∙ parsed-form form (rules_of form) rules words text;
}

func_reads : ReadsAs func_form
unfolding clap_on_literals
func_reads = reads-free func_form refl refl (λ words. refl) func_rules

run_reads : ReadsAs run_form
unfolding clap_on_literals
run_reads = reads-free run_form refl refl (λ words. refl) run_rules

sched_reads : ReadsAs sched_form
unfolding clap_on_literals
sched_reads = reads-free sched_form refl refl (λ words. refl) sched_rules

inorder_reads : ReadsAs inorder_form
unfolding clap_on_literals
inorder_reads = reads-free inorder_form refl refl (λ words. refl) inorder_rules

soak_reads : ReadsAs soak_form
unfolding clap_on_literals
soak_reads = reads-free soak_form refl refl (λ words. refl) soak_rules

back_reads : ReadsAs back_form
unfolding clap_on_literals
back_reads = reads-free back_form refl refl (λ words. refl) back_rules

sweep_reads : ReadsAs sweep_form
unfolding clap_on_literals
sweep_reads = reads-free sweep_form refl refl (λ words. refl) sweep_rules

trace_reads : ReadsAs trace_form
unfolding clap_on_literals
trace_reads = reads-free trace_form refl refl (λ words. refl) trace_rules

watch_reads : (word : Text) → ReadsAs (watch_form word)
unfolding clap_on_literals
watch_reads word = reads-free (watch_form word) refl refl (λ words. refl) (watch_rules word)

count_reads : ReadsAs count_form
unfolding clap_on_literals
count_reads = reads-free count_form refl refl (λ words. refl) count_rules

gdb_reads : ReadsAs gdb_form
unfolding clap_on_literals
gdb_reads = reads-free gdb_form refl refl (λ words. refl) gdb_rules

pub command_reads : (name : CommandName) → ReadsAs (command_in name).form
command_reads names.Func = func_reads
command_reads names.Run = run_reads
command_reads names.Sched = sched_reads
command_reads names.Soak = soak_reads
command_reads names.Back = back_reads
command_reads names.Inorder = inorder_reads
command_reads names.Sweep = sweep_reads
command_reads names.Trace = trace_reads
command_reads names.Stack = watch_reads (codes "stack")
command_reads names.Profile = watch_reads (codes "profile")
command_reads names.Count = count_reads
command_reads names.Gdb = gdb_reads

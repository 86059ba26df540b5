use Rattle.std.proofs.Common.{◌≡◌, ◌∙◌, ◌++◌, ◌+◌, ◌∷◌, [], ℕ, List, codes, length, ap, arith, subst}
use Rattle.std.specs.Prelude.{zip}
use Rattle.std.specs.Slice.Iter.{iter_rest}
use Rattle.std.specs.Iterator.Adapters.{zip_first, zip_second}
use Rattle.std.proofs.lemmas.List.{length-append, length-map}
use Rattle.std.proofs.lemmas.Result.{err_from_is_err_and}
use Rattle.std.proofs.lemmas.Slice.Zip.{length-zip, zip_end, zip_turn}
use Rattle.fsim_ports.specs.Sink.{Breaks, grown}
use Rattle.mono_model.specs.Report.{Text, count_line}
use Rattle.insight_model.specs.declared.cycle_cause.CycleCause.{CycleCause}
use Rattle.insight_model.specs.Cause.{cause_name, causes}
use Rattle.report_text.specs.StackText.{head_lines_of}
use Rattle.report_text.proofs.Lines.{WritesLines, all_written, line_breaks, line_written}
use Rattle.report_text.proofs.StackTexts.{pair_text, pair_within}
use Rattle.report_text.proofs.stack.put_heads.Goals as goal

pub loop-cause-preserved : goal.loop-cause-preserved
loop-cause-preserved g c =
    let numbers = c.args.counts.now.heads in
    let i = length c.loop-cause.yielded in
    let text : CycleCause × ℕ → Text = λ k. count_line (codes "head." ++ cause_name k.0 ++ codes ": ") k.1 in
    let first : iter_rest (zip_first c.into_iter-cause-iterator.result) ≡ causes = ap (λ z. iter_rest (zip_first z)) c.into_iter-cause-iterator.ensures.into_iter_gives ∙ ap iter_rest c.zip-cause-items.ensures.first ∙ c.iter.ensures.rest in
    let items : iter_rest (zip_second c.zip-cause-items.result) ≡ numbers = c.zip-cause-items.ensures.second.0 in
    let second : iter_rest (zip_second c.into_iter-cause-iterator.result) ≡ numbers = ap (λ z. iter_rest (zip_second z)) c.into_iter-cause-iterator.ensures.into_iter_gives ∙ items in
    let turn = zip_turn causes numbers c.loop-cause.yielded c.into_iter-cause-iterator.result c.loop-cause.cause-iterator c.next.new.self _ first second c.loop-cause.yielded_by (c.in-Some.cause, c.in-Some.number) c.in-Some.is c.next.ensures.steps in
    let line : c.as_slice.result.now ≡ text (c.in-Some.cause.now, c.in-Some.number.now) =
    c.as_slice.ensures.same ∙ c.named_line.ensures.text ∙ ap (λ (n : Text). count_line (codes "head." ++ n ++ codes ": ") c.in-Some.number.now) c.cause_name.ensures.name in
    let within = pair_within text causes numbers i turn.0 turn.1 in
    let here = pair_text text causes numbers i turn.0 turn.1 c.in-Some.cause.now c.in-Some.number.now turn.2 turn.3 in
    let P : ℕ → Type 0 = λ n. WritesLines (head_lines_of c.args.counts.now) n (g.K.Sink.faults c.args.sink.now) (g.K.Sink.faults c.put_piece.new.sink) (g.K.Sink.written c.args.sink.now) (g.K.Sink.written c.put_piece.new.sink) in
    let more : i + 1 ≡ length (c.loop-cause.yielded ++ (c.in-Some.cause, c.in-Some.number) ∷ []) = omega (arith, length-append c.loop-cause.yielded ((c.in-Some.cause, c.in-Some.number) ∷ [])) in
    subst P more
    (line_written (head_lines_of c.args.counts.now) i (text (c.in-Some.cause.now, c.in-Some.number.now)) within here c.loop-cause.invariant c.in_ok-put_piece.ensures.count
    (c.in_ok-put_piece.ensures.written ∙ ap (grown (g.K.Sink.written c.loop-cause.sink)) line))

pub returns-in_err-put_piece-clause-written : goal.returns-in_err-put_piece-clause-written
returns-in_err-put_piece-clause-written g c =
    let left = err_from_is_err_and c.from_residual.result c.from_residual.ensures.1 in
    let numbers = c.args.counts.now.heads in
    let i = length c.loop-cause.yielded in
    let text : CycleCause × ℕ → Text = λ k. count_line (codes "head." ++ cause_name k.0 ++ codes ": ") k.1 in
    let first : iter_rest (zip_first c.into_iter-cause-iterator.result) ≡ causes = ap (λ z. iter_rest (zip_first z)) c.into_iter-cause-iterator.ensures.into_iter_gives ∙ ap iter_rest c.zip-cause-items.ensures.first ∙ c.iter.ensures.rest in
    let items : iter_rest (zip_second c.zip-cause-items.result) ≡ numbers = c.zip-cause-items.ensures.second.0 in
    let second : iter_rest (zip_second c.into_iter-cause-iterator.result) ≡ numbers = ap (λ z. iter_rest (zip_second z)) c.into_iter-cause-iterator.ensures.into_iter_gives ∙ items in
    let turn = zip_turn causes numbers c.loop-cause.yielded c.into_iter-cause-iterator.result c.loop-cause.cause-iterator c.next.new.self _ first second c.loop-cause.yielded_by (c.in-Some.cause, c.in-Some.number) c.in-Some.is c.next.ensures.steps in
    let line : c.as_slice.result.now ≡ text (c.in-Some.cause.now, c.in-Some.number.now) =
    c.as_slice.ensures.same ∙ c.named_line.ensures.text ∙ ap (λ (n : Text). count_line (codes "head." ++ n ++ codes ": ") c.in-Some.number.now) c.cause_name.ensures.name in
    let within = pair_within text causes numbers i turn.0 turn.1 in
    let here = pair_text text causes numbers i turn.0 turn.1 c.in-Some.cause.now c.in-Some.number.now turn.2 turn.3 in
    let P : List ℕ → Type 0 = λ t. Breaks t (g.K.Sink.faults c.loop-cause.sink) (g.K.Sink.faults c.put_piece.new.sink) (g.K.Sink.written c.loop-cause.sink) (g.K.Sink.written c.put_piece.new.sink) in
    rw (left.1) (line_breaks (head_lines_of c.args.counts.now) i (text (c.in-Some.cause.now, c.in-Some.number.now)) within here c.loop-cause.invariant.count c.loop-cause.invariant.written (subst P line c.in_err-put_piece.ensures.written))

pub returns-clause-written : goal.returns-clause-written
returns-clause-written g c =
    let numbers = c.args.counts.now.heads in
    let text : CycleCause × ℕ → Text = λ k. count_line (codes "head." ++ cause_name k.0 ++ codes ": ") k.1 in
    let first : iter_rest (zip_first c.into_iter-cause-iterator.result) ≡ causes = ap (λ z. iter_rest (zip_first z)) c.into_iter-cause-iterator.ensures.into_iter_gives ∙ ap iter_rest c.zip-cause-items.ensures.first ∙ c.iter.ensures.rest in
    let items : iter_rest (zip_second c.zip-cause-items.result) ≡ numbers = c.zip-cause-items.ensures.second.0 in
    let second : iter_rest (zip_second c.into_iter-cause-iterator.result) ≡ numbers = ap (λ z. iter_rest (zip_second z)) c.into_iter-cause-iterator.ensures.into_iter_gives ∙ items in
    let end = zip_end causes numbers c.loop-cause.yielded c.into_iter-cause-iterator.result c.loop-cause.cause-iterator c.next.new.self _ first second c.loop-cause.yielded_by c.in-None.is c.next.ensures.steps in
    all_written (head_lines_of c.args.counts.now) (length c.loop-cause.yielded) (omega (arith, end, length-zip causes numbers, length-map (zip causes numbers) text)) c.loop-cause.invariant

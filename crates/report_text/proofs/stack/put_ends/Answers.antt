use Rattle.std.proofs.Common.{◌≡◌, ◌∙◌, ◌++◌, ◌+◌, ◌∷◌, [], ℕ, List, codes, length, ap, arith, subst}
use Rattle.std.specs.Slice.Iter.{iter_rest}
use Rattle.std.specs.Iterator.Adapters.{zip_first, zip_second}
use Rattle.std.proofs.lemmas.List.{length-append}
use Rattle.std.proofs.lemmas.Result.{err_from_is_err_and}
use Rattle.std.proofs.lemmas.Slice.Zip.{zip_turn}
use Rattle.fsim_ports.specs.Sink.{Breaks, grown}
use Rattle.mono_model.specs.Report.{Text, count_line}
use Rattle.insight_model.specs.declared.fetch_end.FetchEnd.{FetchEnd}
use Rattle.insight_model.specs.Fetch.{fetch_end_name, fetch_ends}
use Rattle.report_text.specs.StackText.{fetch_lines_of}
use Rattle.report_text.proofs.Lines.{WritesLines, line_breaks, line_written}
use Rattle.report_text.proofs.StackTexts.{pair_text, pair_within}
use Rattle.report_text.proofs.stack.put_ends.Goals as goal

pub loop-end-preserved : goal.loop-end-preserved
loop-end-preserved g c =
    let numbers = c.args.counts.now.ends in
    let i = length c.loop-end.yielded in
    let text : FetchEnd × ℕ → Text = λ k. count_line (codes "fetch." ++ fetch_end_name k.0 ++ codes ": ") k.1 in
    let first : iter_rest (zip_first c.into_iter-end-iterator.result) ≡ fetch_ends = ap (λ z. iter_rest (zip_first z)) c.into_iter-end-iterator.ensures.into_iter_gives ∙ ap iter_rest c.zip-end-items.ensures.first ∙ c.iter.ensures.rest in
    let items : iter_rest (zip_second c.zip-end-items.result) ≡ numbers = c.zip-end-items.ensures.second.0 in
    let second : iter_rest (zip_second c.into_iter-end-iterator.result) ≡ numbers = ap (λ z. iter_rest (zip_second z)) c.into_iter-end-iterator.ensures.into_iter_gives ∙ items in
    let turn = zip_turn fetch_ends numbers c.loop-end.yielded c.into_iter-end-iterator.result c.loop-end.end-iterator c.next.new.self _ first second c.loop-end.yielded_by (c.in-Some.end, c.in-Some.number) c.in-Some.is c.next.ensures.steps in
    let line : c.as_slice.result.now ≡ text (c.in-Some.end.now, c.in-Some.number.now) =
    c.as_slice.ensures.same ∙ c.named_line.ensures.text ∙ ap (λ (n : Text). count_line (codes "fetch." ++ n ++ codes ": ") c.in-Some.number.now) c.fetch_end_name.ensures.name in
    let within = pair_within text fetch_ends numbers i turn.0 turn.1 in
    let here = pair_text text fetch_ends numbers i turn.0 turn.1 c.in-Some.end.now c.in-Some.number.now turn.2 turn.3 in
    let P : ℕ → Type 0 = λ n. WritesLines (fetch_lines_of c.args.counts.now) n (g.K.Sink.faults c.args.sink.now) (g.K.Sink.faults c.put_piece.new.sink) (g.K.Sink.written c.args.sink.now) (g.K.Sink.written c.put_piece.new.sink) in
    let more : i + 1 ≡ length (c.loop-end.yielded ++ (c.in-Some.end, c.in-Some.number) ∷ []) = omega (arith, length-append c.loop-end.yielded ((c.in-Some.end, c.in-Some.number) ∷ [])) in
    subst P more
    (line_written (fetch_lines_of c.args.counts.now) i (text (c.in-Some.end.now, c.in-Some.number.now)) within here c.loop-end.invariant c.in_ok-put_piece.ensures.count
    (c.in_ok-put_piece.ensures.written ∙ ap (grown (g.K.Sink.written c.loop-end.sink)) line))

pub returns-in_err-put_piece-clause-written : goal.returns-in_err-put_piece-clause-written
returns-in_err-put_piece-clause-written g c =
    let left = err_from_is_err_and c.from_residual.result c.from_residual.ensures.1 in
    let numbers = c.args.counts.now.ends in
    let i = length c.loop-end.yielded in
    let text : FetchEnd × ℕ → Text = λ k. count_line (codes "fetch." ++ fetch_end_name k.0 ++ codes ": ") k.1 in
    let first : iter_rest (zip_first c.into_iter-end-iterator.result) ≡ fetch_ends = ap (λ z. iter_rest (zip_first z)) c.into_iter-end-iterator.ensures.into_iter_gives ∙ ap iter_rest c.zip-end-items.ensures.first ∙ c.iter.ensures.rest in
    let items : iter_rest (zip_second c.zip-end-items.result) ≡ numbers = c.zip-end-items.ensures.second.0 in
    let second : iter_rest (zip_second c.into_iter-end-iterator.result) ≡ numbers = ap (λ z. iter_rest (zip_second z)) c.into_iter-end-iterator.ensures.into_iter_gives ∙ items in
    let turn = zip_turn fetch_ends numbers c.loop-end.yielded c.into_iter-end-iterator.result c.loop-end.end-iterator c.next.new.self _ first second c.loop-end.yielded_by (c.in-Some.end, c.in-Some.number) c.in-Some.is c.next.ensures.steps in
    let line : c.as_slice.result.now ≡ text (c.in-Some.end.now, c.in-Some.number.now) =
    c.as_slice.ensures.same ∙ c.named_line.ensures.text ∙ ap (λ (n : Text). count_line (codes "fetch." ++ n ++ codes ": ") c.in-Some.number.now) c.fetch_end_name.ensures.name in
    let within = pair_within text fetch_ends numbers i turn.0 turn.1 in
    let here = pair_text text fetch_ends numbers i turn.0 turn.1 c.in-Some.end.now c.in-Some.number.now turn.2 turn.3 in
    let P : List ℕ → Type 0 = λ t. Breaks t (g.K.Sink.faults c.loop-end.sink) (g.K.Sink.faults c.put_piece.new.sink) (g.K.Sink.written c.loop-end.sink) (g.K.Sink.written c.put_piece.new.sink) in
    rw (left.1) (line_breaks (fetch_lines_of c.args.counts.now) i (text (c.in-Some.end.now, c.in-Some.number.now)) within here c.loop-end.invariant.count c.loop-end.invariant.written (subst P line c.in_err-put_piece.ensures.written))

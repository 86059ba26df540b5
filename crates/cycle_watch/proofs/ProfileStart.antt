-- A profile of no cycles.
use Rattle.std.proofs.Common.{◌≡◌, ◌∙◌, ℕ, ◌+◌, [], length, ap, rules}
use Rattle.std.specs.Prelude.{replicate}
use Rattle.std.proofs.lemmas.List.{length-replicate}
use Rattle.elf_image.specs.declared.image.Image.{Image}
use Rattle.cache_timing.specs.declared.params.AllCaches.{AllCaches}
use Rattle.cache_timing.specs.Caches.{cold}
use Rattle.cache_timing.specs.CachesStandFor.{CachesStandFor}
use Rattle.text_rows.specs.Rows.{AreRowsOf}
use Rattle.insight_model.specs.declared.pipeline.Pipeline.{Pipeline}
use Rattle.insight_laws.proofs.TextRows.{all_alike}
use Rattle.cycle_watch.specs.declared.profile.Profiling.{Profiling}
use Rattle.cycle_watch.specs.declared.profile_row.ProfileRow.{ProfileRow}
use Rattle.cycle_watch.specs.Profiled.{IsProfileOf, counts_of}
use Rattle.cycle_watch.proofs.RowEvents.{IsRow}

module _ (image : Image) (p : AllCaches) (kind : Pipeline) (profiling : Profiling) (none : ProfileRow) where
  pub no_profile : AreRowsOf image profiling.rows → profiling.counts.items ≡ replicate (length profiling.rows + 1) none → counts_of none ≡ replicate 13 0 → none.word ≡ 0 → none.spent ≡ replicate 19 0 →
      CachesStandFor profiling.caches p cold → IsProfileOf image p kind [] profiling
  no_profile rows are counts word spent caches =
      let nothing : (row : ℕ) → IsRow image [] [] row none = λ row. record { counts = record { counts = counts; spent = spent }; word = word } in
      let each = all_alike profiling.rows profiling.counts.items none (IsRow image [] []) are nothing in
      record {
        accessed = record {
          counted = record {
            rows = rows;
            each = ap (length {A = ProfileRow}) are ∙ length-replicate (length profiling.rows + 1) none;
            counts = λ place row is. (each place row is).counts;
            words = λ place row is. (each place row is).word;
          };
          caches = caches;
        };
        few = search rules;
        new = search rules;
      }

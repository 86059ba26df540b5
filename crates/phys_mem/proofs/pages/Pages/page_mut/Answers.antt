use Rattle.std.proofs.Common.{◌<◌, ◌∙◌, [], length, refl}
use Rattle.std.specs.Prelude.{vec_capacity}
use Rattle.std.proofs.lemmas.List.{get_or_read}
use Rattle.phys_mem.proofs.Places.{has_room, are_few, has_place, page_is, are_changed, is_changed}
use Rattle.phys_mem.proofs.pages.Pages.page_mut.Goals as goal

pub place_of-place-requires-clause-room : goal.place_of-place-requires-clause-room
place_of-place-requires-clause-room c =
    let it = c.self.inside in
    has_room it.made.items it.places.items (vec_capacity it.made) c.args.self.now c.args.index c.index_mut.result.now c.self.invariant c.self.view_is c.requires.inside c.index_mut.ensures.value

pub place_of-place-requires-clause-few : goal.place_of-place-requires-clause-few
place_of-place-requires-clause-few c =
    let it = c.self.inside in
    are_few it.made.items it.places.items (vec_capacity it.made) c.args.self.now c.args.index c.index_mut.result.now c.self.invariant c.self.view_is c.requires.inside c.index_mut.ensures.value

pub invariant_of-self-lent : goal.invariant_of-self-lent
invariant_of-self-lent c = λ w.
    let it = c.self.inside in
    let got = c.place_of-place.ensures in
    rw (got.made, got.same, got.place, got.capacity)
    (are_changed it.made.items it.places.items (vec_capacity it.made) c.args.self.now c.args.index c.index_mut.result.now c.self.invariant c.self.view_is c.requires.inside c.index_mut.ensures.value w)

pub returns : goal.returns
returns c =
    let it = c.self.inside in
    let got = c.place_of-place.ensures in
    let made = c.place_of-place.new.made.items in
    let place = c.place_of-place.result in
    let within : place < length made =
    rw (got.made, got.same, got.place)
    (has_place it.made.items it.places.items (vec_capacity it.made) c.args.self.now c.args.index c.index_mut.result.now c.self.invariant c.self.view_is c.requires.inside c.index_mut.ensures.value) in (
      (refl, λ w. rw (got.made, got.same, got.place) (is_changed it.made.items it.places.items (vec_capacity it.made) c.args.self.now c.args.index c.index_mut.result.now c.self.invariant c.self.view_is c.requires.inside c.index_mut.ensures.value w)),
      record {
        changed = tt;
        page = get_or_read made place c.index_mut-2.result.now within c.index_mut-2.ensures.value []
            ∙ rw (got.made, got.same, got.place) (page_is it.made.items it.places.items (vec_capacity it.made) c.args.self.now c.args.index c.index_mut.result.now c.self.invariant c.self.view_is c.requires.inside c.index_mut.ensures.value);
      },
    )

use Rattle.multi_judge.proofs.Lemmas.{◌≡◌, ◌<◌, [], refl, sym, arith, rules, le-leb, nat_tests, page_number, group_sum, area_turned, kept_group_height}
use Rattle.multi_judge.proofs.area.Area.reach.Goals as goal

pub returns : goal.returns
returns c =
    let area = c.args.self.now in
    let new = c.match-self.self in
    let page = page_number c.args.here.now.page_just in
    let is_page = c.number-page_just.ensures.number in
    let later : area.present < page = omega (arith, c.if-page_just-self.false, is_page) in
    let moved : (new.top ≡ kept_group_height 2 area) × (new.middle ≡ kept_group_height 3 area) = elim c.match-self.branch [
      | goal.in-2 w ↦ rw w.self-is (rw w.in-2.is w.height-self.ensures.kept, rw w.in-2.is refl)
      | goal.in-3 w ↦ rw w.self-is (rw w.in-3.is refl, rw w.in-3.is w.height-self-in-3.ensures.kept)
      | goal.in_default w ↦ rw w.self-is (grind (arith, nat_tests, w.in_default), grind (arith, nat_tests, w.in_default))
    ] in
    let empty : c.default-self.result ≡ group_sum [] = search rules in
    record {
      reached = record {
        order = sym (le-leb area.present page (omega (arith, later)));
        goes = λ is. record {
          sum = λ items placing e. area_turned items area e placing page later _ is_page moved.0 moved.1 empty;
          present = is_page;
          stays = λ same. absurd (omega (arith, same, later));
          begins = λ less. rw empty refl;
        };
        limit = λ is kept. c.room_for.ensures.room;
        left = λ none. absurd cc;
      };
    }

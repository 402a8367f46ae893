use Rattle.page_plane.proofs.PlaneLemmas as lemmas
use Rattle.page_plane.proofs.laws.a_plane_is_its_pixels.Goals as goal

pub returns : goal.returns
returns c = lemmas.a_plane_is_its_pixels

-- Worked examples of what a sign file sets up, computed.
use Rattle.std.proofs.Common.{◌≡◌, [], ◌∷◌, Ok, Err, refl, codes}
use Rattle.message_store.specs.Slot.{StoreData, empty_slot}
use Rattle.sign_file.proofs.OnLiterals.{sign_file_on_literals}
use Rattle.sign_file.proofs.SignFileRows.{a_file, its_sign}
use Rattle.tool_streams.specs.declared.fault.ToolFault.TheVariants.{BadSign, SignRefused}
use Rattle.sign_tool.specs.FileSetup.{setup_of_octets}

its_store : StoreData
its_store = record { limits = record { slots = 1; bytes = 4; max_string = 64 }; permanent = []; slots = empty_slot ∷ [] }

a_file_has_its_sign_and_store : setup_of_octets (a_file (codes "width = 12") (codes "1") (codes "65") (codes "5e80") []) ≡ Ok (record { sign = its_sign 12; store = its_store })
unfolding sign_file_on_literals setup_of_octets its_sign its_store
a_file_has_its_sign_and_store = refl

a_width_of_0_is_fault_1 : setup_of_octets (a_file (codes "width = 0") (codes "1") (codes "65") (codes "5e80") []) ≡ Err (SignRefused 1)
unfolding sign_file_on_literals setup_of_octets
a_width_of_0_is_fault_1 = refl

keys_are_read_before_the_sign_is_judged : setup_of_octets (a_file (codes "width = 0") (codes "70000") (codes "65") (codes "5e80") []) ≡ Err BadSign
unfolding sign_file_on_literals setup_of_octets
keys_are_read_before_the_sign_is_judged = refl

a_cell_of_0_is_fault_3 : setup_of_octets (a_file (codes "width = 12") (codes "1") (codes "0") (codes "5e80") []) ≡ Err (SignRefused 3)
unfolding sign_file_on_literals setup_of_octets
a_cell_of_0_is_fault_3 = refl

a_cell_of_65536_is_not_read : setup_of_octets (a_file (codes "width = 12") (codes "1") (codes "65536") (codes "5e80") []) ≡ Err BadSign
unfolding sign_file_on_literals setup_of_octets
a_cell_of_65536_is_not_read = refl

no_slots_are_fault_5 : setup_of_octets (a_file (codes "width = 12") (codes "0") (codes "65") (codes "5e80") []) ≡ Err (SignRefused 5)
unfolding sign_file_on_literals setup_of_octets
no_slots_are_fault_5 = refl

the_sign_is_judged_before_its_store : setup_of_octets (a_file (codes "width = 0") (codes "0") (codes "65") (codes "5e80") []) ≡ Err (SignRefused 1)
unfolding sign_file_on_literals setup_of_octets
the_sign_is_judged_before_its_store = refl

nothing_sets_up_nothing : setup_of_octets [] ≡ Err BadSign
unfolding sign_file_on_literals setup_of_octets
nothing_sets_up_nothing = refl

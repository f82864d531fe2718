-- What a list in fixed memory holds.
use Rattle.std.specs.Prelude.{ℕ, Bool, List, length, take, nat_lt}
use Rattle.lists.specs.declared.front.Front.{Front}

-- the numbers, in order
abbrev pub items : {cap : ℕ} → Front cap → List ℕ
items f = take f.len f.values

-- whether there is room for one more
abbrev pub has_room : {cap : ℕ} → Front cap → Bool
has_room {cap} f = nat_lt (length (items f)) cap

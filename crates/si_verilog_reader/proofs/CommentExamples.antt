-- Worked examples of texts without their comments.
use Rattle.std.proofs.Common.{◌≡◌, refl, codes}
use Rattle.si_verilog_reader.specs.Comments.{without_comments}

of_a_line : without_comments (codes "a//b\nc") ≡ codes "a   \nc"
unfolding without_comments
of_a_line = refl

of_two_lines : without_comments (codes "a/* x\ny */b") ≡ codes "a    \n    b"
unfolding without_comments
of_two_lines = refl

-- none begins within an escaped name
in_a_name : without_comments (codes "\\a//b c") ≡ codes "\\a//b c"
unfolding without_comments
in_a_name = refl

behind_a_name : without_comments (codes "\\a //b") ≡ codes "\\a    "
unfolding without_comments
behind_a_name = refl

lone_slash : without_comments (codes "a / b") ≡ codes "a / b"
unfolding without_comments
lone_slash = refl

-- the `*` of `/*` is none of `*/`
not_yet_ended : without_comments (codes "/*/a*/b") ≡ codes "      b"
unfolding without_comments
not_yet_ended = refl

stars : without_comments (codes "/***/b") ≡ codes "     b"
unfolding without_comments
stars = refl

not_ended : without_comments (codes "a /* b\nc") ≡ codes "a     \n "
unfolding without_comments
not_ended = refl

-- neither kind begins within the other
one_within_another : without_comments (codes "// /*\na /* // */ b") ≡ codes "     \na          b"
unfolding without_comments
one_within_another = refl

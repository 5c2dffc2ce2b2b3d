-- (text) Bytes of texts, by their names.
use Rattle.std.specs.Prelude.{ℕ, Bool, if◌then◌else◌}

abbrev pub tab : ℕ
tab = 9

abbrev pub line_feed : ℕ
line_feed = 10

abbrev pub carriage_return : ℕ
carriage_return = 13

-- ` `
abbrev pub space : ℕ
space = 32

-- `!`, the first byte after the space
abbrev pub first_visible : ℕ
first_visible = 33

-- `!`
abbrev pub exclamation_mark : ℕ
exclamation_mark = 33

-- `"`
abbrev pub double_quote : ℕ
double_quote = 34

-- `#`
abbrev pub hash : ℕ
hash = 35

-- `$`
abbrev pub dollar : ℕ
dollar = 36

-- `&`
abbrev pub ampersand : ℕ
ampersand = 38

-- `'`
abbrev pub apostrophe : ℕ
apostrophe = 39

-- `(`
abbrev pub opening_parenthesis : ℕ
opening_parenthesis = 40

-- `)`
abbrev pub closing_parenthesis : ℕ
closing_parenthesis = 41

-- `*`
abbrev pub asterisk : ℕ
asterisk = 42

-- `+`
abbrev pub plus : ℕ
plus = 43

-- `,`
abbrev pub comma : ℕ
comma = 44

-- `-`
abbrev pub minus : ℕ
minus = 45

-- the direction of an event, as texts write it
abbrev pub sign : Bool → ℕ
sign up = if up then plus else minus

-- `.`
abbrev pub dot : ℕ
dot = 46

-- `/`
abbrev pub slash : ℕ
slash = 47

-- `0`
abbrev pub digit_zero : ℕ
digit_zero = 48

-- `1`
abbrev pub digit_one : ℕ
digit_one = 49

-- `9`
abbrev pub digit_nine : ℕ
digit_nine = 57

-- `;`
abbrev pub semicolon : ℕ
semicolon = 59

-- `<`
abbrev pub less_sign : ℕ
less_sign = 60

-- `=`
abbrev pub equals_sign : ℕ
equals_sign = 61

-- `>`
abbrev pub greater_sign : ℕ
greater_sign = 62

-- `@`
abbrev pub at_sign : ℕ
at_sign = 64

-- `A`
abbrev pub first_capital : ℕ
first_capital = 65

-- `Z`
abbrev pub last_capital : ℕ
last_capital = 90

-- `[`
abbrev pub opening_bracket : ℕ
opening_bracket = 91

-- `\`
abbrev pub backslash : ℕ
backslash = 92

-- `]`
abbrev pub closing_bracket : ℕ
closing_bracket = 93

-- `_`
abbrev pub underscore : ℕ
underscore = 95

-- `a`
abbrev pub first_small : ℕ
first_small = 97

-- `z`
abbrev pub last_small : ℕ
last_small = 122

-- `{`
abbrev pub opening_brace : ℕ
opening_brace = 123

-- `}`
abbrev pub closing_brace : ℕ
closing_brace = 125

-- `~`, the last byte of a text
abbrev pub tilde : ℕ
tilde = 126

-- The characters of scripts, answers and pages by their ASCII codes.
use Rattle.std.specs.Prelude.{ℕ}

abbrev pub tab : ℕ
tab = 9

abbrev pub feed : ℕ
feed = 10

abbrev pub blank : ℕ
blank = 32

abbrev pub '-' : ℕ
'-' = 45

abbrev pub '0' : ℕ
'0' = 48

abbrev pub '9' : ℕ
'9' = 57

abbrev pub ':' : ℕ
':' = 58

abbrev pub '?' : ℕ
'?' = 63

abbrev pub 'A' : ℕ
'A' = 65

abbrev pub 'B' : ℕ
'B' = 66

abbrev pub 'C' : ℕ
'C' = 67

abbrev pub 'E' : ℕ
'E' = 69

abbrev pub 'F' : ℕ
'F' = 70

abbrev pub 'G' : ℕ
'G' = 71

abbrev pub 'H' : ℕ
'H' = 72

abbrev pub 'K' : ℕ
'K' = 75

abbrev pub 'M' : ℕ
'M' = 77

abbrev pub 'N' : ℕ
'N' = 78

abbrev pub 'O' : ℕ
'O' = 79

abbrev pub 'P' : ℕ
'P' = 80

abbrev pub 'Q' : ℕ
'Q' = 81

abbrev pub 'R' : ℕ
'R' = 82

abbrev pub 'S' : ℕ
'S' = 83

abbrev pub 'T' : ℕ
'T' = 84

abbrev pub 'U' : ℕ
'U' = 85

abbrev pub 'V' : ℕ
'V' = 86

abbrev pub 'W' : ℕ
'W' = 87

abbrev pub 'X' : ℕ
'X' = 88

abbrev pub 'Y' : ℕ
'Y' = 89

abbrev pub 'a' : ℕ
'a' = 97

abbrev pub 'b' : ℕ
'b' = 98

abbrev pub 'f' : ℕ
'f' = 102

abbrev pub 'h' : ℕ
'h' = 104

abbrev pub 'n' : ℕ
'n' = 110

abbrev pub 'p' : ℕ
'p' = 112

abbrev pub 'y' : ℕ
'y' = 121

abbrev pub 'z' : ℕ
'z' = 122

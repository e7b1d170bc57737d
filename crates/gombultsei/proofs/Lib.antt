mod Loop

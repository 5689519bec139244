mod Suited
